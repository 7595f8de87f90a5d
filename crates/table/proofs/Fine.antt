-- Numbers without a fault are those that are what they may be. Assumes nothing.
use Prim.Native.Nat.{ℕ, ◌≤◌}
use native.Mathlib.Omega.{arith}
use borrow.Author.Tests.{lt-ltb, le-ltb}
use mathlib.Core.Path.{◌≡◌, refl, ap, ◌∙◌}
use mathlib.Core.Logic.{⊎_elim}
use mathlib.Core.List.{List, [], ◌∷◌}
use lib.ListN.{length}
use Rattle.lists.proofs.Tests.{either}
use Rattle.table.specs.declared.Verdict.TheVariants.{Good}
use Rattle.table.specs.Verdicts.{code_of}
use Rattle.table.specs.declared.Wanted.{Wanted}
use Rattle.table.specs.Fields.{judge, fault_in}
use Rattle.table.proofs.Codes.{or-good, first_good, then_good}

-- a number that is what it may be
pub record Fine (w : Wanted) (n : ℕ) : Type 0 where
  pub least : w.low ≤ n
  pub most : n ≤ w.high
  pub room : n ≤ w.left

module _ (w : Wanted) (carried n : ℕ) where
  -- it has no fault
  pub fine_good : Fine w n → judge w carried n ≡ Good
  unfolding judge
  fine_good f = rw (le-ltb n w.low f.least, le-ltb w.high n f.most, le-ltb w.left n f.room)

  -- and no other has none
  pub good_fine : code_of (judge w carried n) ≡ 0 → Fine w n
  unfolding judge
  good_fine e =
      ⊎_elim (λ low. absurd (omega (arith, rw (lt-ltb n w.low low) at e)))
      (λ least. ⊎_elim (λ high. absurd (omega (arith, rw (le-ltb n w.low least, lt-ltb w.high n high) at e)))
      (λ most. ⊎_elim (λ over. absurd (omega (arith, rw (le-ltb n w.low least, le-ltb w.high n most, lt-ltb w.left n over) at e)))
      (λ room. record { least = least; most = most; room = room })
      (either w.left n)) (either w.high n)) (either n w.low)

-- and as many of them as are wanted
unfoldable pub AllFine : List Wanted → List ℕ → Type 0
AllFine [] [] = Unit {0}
AllFine [] (n ∷ ns) = ⊥
AllFine (w ∷ ws) [] = ⊥
AllFine (w ∷ ws) (n ∷ ns) = Fine w n × AllFine ws ns

-- such numbers have no fault
pub all-good : (ws : List Wanted) (carried : ℕ) (ns : List ℕ) → AllFine ws ns → fault_in ws carried ns ≡ Good
unfolding AllFine fault_in
all-good [] carried ns f = refl
all-good (w ∷ ws) carried [] f = refl
all-good (w ∷ ws) carried (n ∷ ns) f =
    or-good (judge w carried n) _ (ap code_of (fine_good w carried n f.0)) ∙ all-good ws carried ns f.1

-- and no others have none
pub good-all : (ws : List Wanted) (carried : ℕ) (ns : List ℕ) → length ws ≡ length ns
    → code_of (fault_in ws carried ns) ≡ 0 → AllFine ws ns
unfolding AllFine fault_in
good-all [] carried [] l e = tt
good-all [] carried (n ∷ ns) l e = absurd (omega arith)
good-all (w ∷ ws) carried [] l e = absurd (omega arith)
good-all (w ∷ ws) carried (n ∷ ns) l e =
    (good_fine w carried n (first_good (judge w carried n) _ e), good-all ws carried ns (omega arith) (then_good (judge w carried n) _ e))
