-- A rule that is not broken holds of every row and every earlier one. Assumes nothing.
use Prim.Native.Nat.{ℕ, ◌≤◌}
use native.Mathlib.Omega.{arith}
use borrow.Author.Tests.{lt-ltb}
use mathlib.Core.Path.{◌≡◌, refl, sym, ap, ◌∙◌}
use mathlib.Core.Bool.{Bool, false}
use mathlib.Core.Logic.{◌⊎◌, inl, inr, ⊎_elim}
use mathlib.Core.List.Memᴰ
use mathlib.Core.List.{List, [], ◌∷◌, ◌++◌}
use lib.ListN.{length}
use Rattle.lists.specs.Lists.{◌∈◌, any}
use Rattle.lists.proofs.Tests.{by_test, never, either}
use Rattle.table.specs.declared.Row.{Row}
use Rattle.table.specs.Rules.{Rule}
use Rattle.table.specs.Rules as R
use Rattle.table.specs.Verdicts.{code_of}
use Rattle.table.specs.Clash.{breaks, clash_after, clash, rule_verdict, broken}

-- no element passes a test with an earlier one
unfoldable pub Apart : {A : Type 0} → (A → A → Bool) → List A → Type 0
Apart f [] = Unit {0}
Apart {A} f (r ∷ rs) = ((s : A) → s ∈ rs → f s r ≡ false) × Apart f rs

module _ {A : Type 0} where
  -- where none passes, each fails
  none_passes : (p : A → Bool) (xs : List A) → any p xs ≡ false → (x : A) → x ∈ xs → p x ≡ false
  unfolding any
  none_passes p [] e x m = elim m [ ]
  none_passes p (y ∷ ys) e x (Memᴰ.head q) =
      by_test (p y) (λ t. absurd (never refl (rw t at e))) (λ t. ap p q ∙ t)
  none_passes p (y ∷ ys) e x (Memᴰ.tail m) =
      by_test (p y) (λ t. absurd (never refl (rw t at e))) (λ t. none_passes p ys (rw t at e) x m)

  -- elements none of which clashes
  no_clash : (f : A → A → Bool) (earlier rs : List A) → length rs ≤ clash_after f earlier rs
      → ((a : A) → a ∈ earlier → (s : A) → s ∈ rs → f s a ≡ false) × Apart f rs
  unfolding clash_after Apart
  no_clash f earlier [] h = (λ a m s n. absurd (Memᴰ.not-nil n), tt)
  no_clash f earlier (r ∷ rs) h =
      by_test (any (f r) earlier)
      (λ e. absurd (omega (arith, rw e at h)))
      (λ e.
      (let more = no_clash f (earlier ++ (r ∷ [])) rs (omega (arith, rw e at h)) in (
        λ a m s n.
            ⊎_elim (λ q. ap (λ (x : A). f x a) q ∙ none_passes (f r) earlier e a m)
            (λ k. more.0 a (Memᴰ.append_left (r ∷ []) m) s k)
            (Memᴰ.cases_cons n),
        (λ s n. more.0 r (Memᴰ.append_right earlier (Memᴰ.head refl)) s n, more.1),
      )))

  -- of two elements they are the same, or one is earlier
  pub apart_two : (f : A → A → Bool) (xs : List A) → Apart f xs → (a b : A) → a ∈ xs → b ∈ xs
      → (a ≡ b) ⊎ ((f b a ≡ false) ⊎ (f a b ≡ false))
  unfolding Apart
  apart_two f [] d a b m n = absurd (Memᴰ.not-nil m)
  apart_two f (x ∷ xs) d a b m n = go (Memᴰ.cases_cons m) (Memᴰ.cases_cons n) (λ p q. apart_two f xs d.1 a b p q)
    where
      go : (a ≡ x) ⊎ (a ∈ xs) → (b ≡ x) ⊎ (b ∈ xs)
          → (a ∈ xs → b ∈ xs → (a ≡ b) ⊎ ((f b a ≡ false) ⊎ (f a b ≡ false)))
          → (a ≡ b) ⊎ ((f b a ≡ false) ⊎ (f a b ≡ false))
      go (inl p) (inl q) below = inl (p ∙ sym q)
      go (inl p) (inr q) below = inr (inl (ap (f b) p ∙ d.0 b q))
      go (inr p) (inl q) below = inr (inr (ap (f a) q ∙ d.0 a p))
      go (inr p) (inr q) below = below p q

-- a rule's verdict that names a row is no good one
verdict-fault : (rule : Rule) (n : ℕ) → code_of (rule_verdict rule n) ≡ 0 → ⊥
verdict-fault R.SameId n q = omega (arith, q)
verdict-fault R.SamePriority n q = omega (arith, q)
verdict-fault R.KindsCrossed n q = omega (arith, q)

-- where the verdict is good, no row breaks the rule with an earlier one
pub rule_holds : (rule : Rule) (rows : List Row) → code_of (broken rule rows) ≡ 0 → Apart (breaks rule) rows
unfolding broken
rule_holds rule rows e =
    (no_clash (breaks rule) [] rows
    (⊎_elim (λ h. absurd (verdict-fault rule (clash (breaks rule) rows) (rw (lt-ltb (clash (breaks rule) rows) (length rows) h) at e)))
    (λ h. h)
    (either (clash (breaks rule) rows) (length rows)))
    ).1
