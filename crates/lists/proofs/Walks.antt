-- Going through the first elements of a list one by one, and what is found at a place or kept of a list. Assumes nothing.
use Prim.Native.Nat.{ℕ, zero, suc, ◌+◌, ◌≤◌, ◌<◌}
use native.Mathlib.Numerals.{add-one}
use native.Mathlib.Omega.{arith}
use mathlib.Core.Path.{◌≡◌, refl, ap, ◌∙◌}
use mathlib.Core.Bool.{Bool}
use mathlib.Core.List.Memᴰ
use mathlib.Core.List.{List, [], ◌∷◌, ◌++◌}
use lib.ListN.{length, get_or, take, drop, length-append, take-append-drop}
use lib.Seq.{drop-cons, drop-drop, get_or-take, length-take-le}
use Rattle.lists.specs.Lists.{◌∈◌, keep, over, total}
use Rattle.lists.proofs.Tests.{by_test}
use Rattle.lists.proofs.Overs.{drop-over}

module _ {A : Type 0} where
  -- of the first n elements, those from place i on: the one there, and the others
  pub taken_more : (d : A) (n : ℕ) (xs : List A) (i : ℕ) → i < n → n ≤ length xs
      → drop i (take n xs) ≡ get_or xs i d ∷ drop (i + 1) (take n xs)
  taken_more d n xs i h long =
      let inside : i < length (take n xs) = rw (length-take-le n xs long) h in
      drop-cons (take n xs) i d inside ∙ rw (get_or-take n xs i d h, add-one)

  -- the element at a place is of the list
  pub get_in : (d : A) (xs : List A) (i : ℕ) → i < length xs → get_or xs i d ∈ xs
  get_in d [] i h = absurd (omega arith)
  get_in d (x ∷ xs) zero h = Memᴰ.head refl
  get_in d (x ∷ xs) (suc i) h = Memᴰ.tail (get_in d xs i (omega arith))

  -- a list's own first elements over it change nothing
  pub over-front : (n : ℕ) (old : List A) → n ≤ length old → over (take n old) old ≡ old
  unfolding over
  over-front n old h = rw (length-take-le n old h) (take-append-drop n old)

  -- what is put over a list and again in front of more is put there once
  pub over-twice : (new more old : List A) → over (new ++ more) (over new old) ≡ over (new ++ more) old
  unfolding over
  over-twice new more old =
      ap (◌++◌ (new ++ more))
      (rw (length-append, ← drop-drop (length more) (length new) (over new old), drop-over new old, drop-drop))

  -- no more is kept than there is
  pub keep-total : (f : A → ℕ) (p : A → Bool) (xs : List A) → total f (keep p xs) ≤ total f xs
  unfolding keep total
  keep-total f p [] = omega arith
  keep-total f p (x ∷ xs) =
      by_test (p x) (λ e. rw e (omega (arith, keep-total f p xs))) (λ e. rw e (omega (arith, keep-total f p xs)))
