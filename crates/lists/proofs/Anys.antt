-- A test that no element passes, and a test of one element more. Assumes nothing.
use Prim.Native.Nat.{ℕ, zero, suc}
use mathlib.Core.Path.{◌≡◌, refl, sym}
use mathlib.Core.Bool.{Bool, true, false}
use mathlib.Core.List.{List, [], ◌∷◌, ◌++◌}
use lib.ListN.{drop}
use Rattle.lists.specs.Lists.{pick, any}
use Rattle.lists.proofs.Tests.{by_test, never, pick_same}

module _ {A : Type 0} (p : A → Bool) where
  -- neither the first nor any of the others
  pub none_cons : (x : A) (xs : List A) → any p (x ∷ xs) ≡ false → (p x ≡ false) × (any p xs ≡ false)
  unfolding any
  none_cons x xs e = by_test (p x) (λ t. absurd (never refl (rw t at e))) (λ f. (f, rw f at e))

  -- none in two lists, one behind the other
  pub none_append : (xs ys : List A) → any p xs ≡ false → any p ys ≡ false → any p (xs ++ ys) ≡ false
  unfolding any
  none_append [] ys e f = f
  none_append (x ∷ xs) ys e f = let n = none_cons x xs e in rw n.0 (none_append xs ys n.1 f)

  -- none from a place on
  pub none_drop : (n : ℕ) (xs : List A) → any p xs ≡ false → any p (drop n xs) ≡ false
  none_drop zero xs e = e
  none_drop (suc n) [] e = e
  none_drop (suc n) (x ∷ xs) e = none_drop n xs (none_cons x xs e).1

  -- one more behind them
  pub any_snoc : (xs : List A) (x : A) → any p (xs ++ (x ∷ [])) ≡ pick (p x) true (any p xs)
  unfolding any
  any_snoc [] x = refl
  any_snoc (y ∷ ys) x = by_test (p y) (λ t. rw t (sym (pick_same (p x) true))) (λ f. rw f (any_snoc ys x))
