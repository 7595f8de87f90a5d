-- Counting from 0: what is made of 0, 1, .. n - 1, one after another, and how long that is. Assumes nothing.
use Prim.Native.Nat.{ℕ, zero, suc, ◌+◌, ◌*◌, ◌≤◌, ◌<◌}
use native.Mathlib.Nat.{add-mul}
use native.Mathlib.Numerals.{add-one}
use native.Mathlib.Omega.{arith}
use mathlib.Core.Path.{◌≡◌, refl, sym, ap}
use mathlib.Core.Logic.{⊎_elim}
use mathlib.Core.List.Memᴰ
use mathlib.Core.List.{List, [], ◌∷◌, ◌++◌}
use lib.ListN.{length, take, drop, length-append, drop_of_length-le}
use lib.Seq.{drop-cons}
use Rattle.lists.specs.Lists.{◌∈◌, each, total, listed, up_to}
use Rattle.lists.proofs.Listed.{listed-length, listed_at}

-- ---- the numbers below n

-- an element of a list that is made by counting was made of a number below its length
pub listed-from : {A : Type 0} (h : ℕ → A) (n : ℕ) (x : A) → x ∈ listed h n → (i : ℕ) × (i < n) × (h i ≡ x)
unfolding listed
listed-from h zero x m = absurd (Memᴰ.not-nil m)
listed-from h (suc n) x m =
    ⊎_elim (λ e. (0, omega arith, sym e))
    (λ k. let w = listed-from (λ i. h (suc i)) n x k in (suc w.0, omega (arith, w.1), w.2))
    (Memᴰ.cases_cons m)

-- so those counted are below n
pub counted_below : (n k : ℕ) → k ∈ up_to n → k < n
counted_below n k m = let w = listed-from (λ i. i) n k m in omega (arith, w.1, w.2)

-- the first of them are counted too
pub take-listed : {A : Type 0} (h : ℕ → A) (n i : ℕ) → i ≤ n → take i (listed h n) ≡ listed h i
unfolding listed
take-listed h n zero q = refl
take-listed h zero (suc i) q = absurd (omega arith)
take-listed h (suc n) (suc i) q = ap (◌∷◌ (h 0)) (take-listed (λ k. h (suc k)) n i (omega arith))

-- ---- what is made of each

module _ {B : Type 0} (f : ℕ → List B) (n i : ℕ) where
  -- from i on: what is made of i, then of the others
  pub each_more : i < n → each f (drop i (up_to n)) ≡ f i ++ each f (drop (i + 1) (up_to n))
  unfolding each
  each_more h =
      let here : i < length (up_to n) = rw (listed-length (λ (k : ℕ). k) n) h in
      rw (drop-cons (up_to n) i 0 here, listed_at (λ (k : ℕ). k) n i 0 h, add-one)

  -- past the last nothing is left
  pub each_none : n ≤ i → each f (drop i (up_to n)) ≡ []
  unfolding each
  each_none h = let past : length (up_to n) ≤ i = rw (listed-length (λ (k : ℕ). k) n) h in rw (drop_of_length-le (up_to n) past)

module _ {A : Type 0} where
  -- one for each element is as many as there are
  pub total_ones : (xs : List A) → total (λ x. 1) xs ≡ length xs
  unfolding total
  total_ones [] = refl
  total_ones (x ∷ xs) = omega (arith, total_ones xs)

  -- pieces of at most so many times m elements
  pub each_short : {B : Type 0} (f : A → List B) (g : A → ℕ) (m : ℕ) (xs : List A) → ((x : A) → x ∈ xs → length (f x) ≤ g x * m)
      → length (each f xs) ≤ total g xs * m
  unfolding each total
  each_short f g m [] h = omega arith
  each_short f g m (x ∷ xs) h =
      rw (length-append (f x) (each f xs))
      (omega (arith, add-mul (g x) (total g xs) m, h x (Memᴰ.head refl), each_short f g m xs (λ u k. h u (Memᴰ.tail k))))
