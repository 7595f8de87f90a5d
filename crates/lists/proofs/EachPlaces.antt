-- Places in lists that are put together of others. Assumes nothing.
use Prim.Native.Nat.{ℕ, zero, suc, ◌+◌, ◌<◌}
use native.Mathlib.Nat.{zero-add, suc-add, add_assoc}
use native.Mathlib.Omega.{arith}
use mathlib.Core.Path.{◌≡◌, refl}
use mathlib.Core.Bool.{Bool, true}
use mathlib.Core.List.{List, [], ◌∷◌, ◌++◌}
use lib.ListN.{length, take}
use Rattle.lists.specs.Lists.{keep, each, total, listed, Place}
use Rattle.lists.proofs.Tests.{by_test}

module _ {A : Type 0} where
  -- in the first of two lists
  pub place_left : (xs ys : List A) (i : ℕ) (x : A) → Place xs i x → Place (xs ++ ys) i x
  unfolding Place
  place_left [] ys i x p = absurd p
  place_left (z ∷ xs) ys zero x p = p
  place_left (z ∷ xs) ys (suc i) x p = place_left xs ys i x p

  -- in the second
  pub place_right : (xs ys : List A) (i : ℕ) (x : A) → Place ys i x → Place (xs ++ ys) (length xs + i) x
  unfolding Place
  place_right [] ys i x p = rw zero-add p
  place_right (z ∷ xs) ys i x p = rw suc-add (place_right xs ys i x p)

  -- in a list that is made by counting
  pub place_listed : (h : ℕ → A) (n i : ℕ) → i < n → Place (listed h n) i (h i)
  unfolding Place listed
  place_listed h zero i q = absurd (omega arith)
  place_listed h (suc n) zero q = refl
  place_listed h (suc n) (suc i) q = place_listed (λ k. h (suc k)) n i (omega arith)

-- in what is made of each element: behind all that is made of those before
pub place_each : {A B : Type 0} (f : A → List B) (xs : List A) (i : ℕ) (x : A) → Place xs i x → (k : ℕ) (y : B) → Place (f x) k y
    → Place (each f xs) (total (λ u. length (f u)) (take i xs) + k) y
unfolding Place each total
place_each f [] i x p k y q = absurd p
place_each f (z ∷ xs) zero x p k y q = rw (zero-add k, p) (place_left (f x) (each f xs) k y q)
place_each f (z ∷ xs) (suc i) x p k y q =
    rw add_assoc (place_right (f z) (each f xs) _ y (place_each f xs i x p k y q))

-- and of each element that is kept: behind all that is made of those kept before
pub place_kept : {A B : Type 0} (p : A → Bool) (f : A → List B) (xs : List A) (i : ℕ) (x : A) → Place xs i x → p x ≡ true
    → (k : ℕ) (y : B) → Place (f x) k y → Place (each f (keep p xs)) (total (λ u. length (f u)) (keep p (take i xs)) + k) y
unfolding Place each total keep
place_kept p f [] i x l e k y q = absurd l
place_kept p f (z ∷ xs) zero x l e k y q = rw (l, e, zero-add k) (place_left (f x) (each f (keep p xs)) k y q)
place_kept p f (z ∷ xs) (suc i) x l e k y q =
    by_test (p z) (λ h. rw (h, add_assoc) (place_right (f z) (each f (keep p xs)) _ y (place_kept p f xs i x l e k y q)))
    (λ h. rw h (place_kept p f xs i x l e k y q))
