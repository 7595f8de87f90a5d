-- Laws of verdicts: the first fault decides. Assumes nothing.
use Prim.Native.Nat.{ℕ}
use borrow.Author.Tests.{eq-eqb, ne_eqb}
use mathlib.Core.Path.{◌≡◌, ◌∙◌}
use mathlib.Core.Bool.{true, false}
use lib.Dec.{eqb→eq}
use Rattle.std.specs.Prelude.{Ok, Err}
use Rattle.lists.proofs.Tests.{by_test}
use Rattle.table.specs.declared.Verdict.{Verdict}
use Rattle.table.specs.Verdicts.{code_of, good, ◌or_else◌, judged}

-- code 0 is good, and no other
pub is_good : (v : Verdict) → code_of v ≡ 0 → good v ≡ true
unfolding good
is_good v e = eq-eqb (code_of v) 0 e

-- a good verdict has code 0
pub good-code : (v : Verdict) → good v ≡ true → code_of v ≡ 0
unfolding good
good-code v t = eqb→eq (code_of v) 0 (rw t tt)

-- and a fault another
pub is_fault : (v : Verdict) → (code_of v ≡ 0 → ⊥) → good v ≡ false
unfolding good
is_fault v h = ne_eqb (code_of v) 0 h

-- after a good verdict the next decides; where all is good, so is each
pub or-good : (v w : Verdict) → code_of v ≡ 0 → v or_else w ≡ w
unfolding ◌or_else◌
or-good v w e = rw (is_good v e)

-- the first is good
pub first_good : (v w : Verdict) → code_of (v or_else w) ≡ 0 → code_of v ≡ 0
unfolding ◌or_else◌ good
first_good v w e = by_test (good v) (good-code v) (λ f. rw f at e)

-- and so is the next
pub then_good : (v w : Verdict) → code_of (v or_else w) ≡ 0 → code_of w ≡ 0
then_good v w e = rw (or-good v w (first_good v w e)) at e

-- the first of three faults, in any grouping
pub or_assoc : (u v w : Verdict) → u or_else (v or_else w) ≡ (u or_else v) or_else w
unfolding ◌or_else◌
or_assoc u v w = by_test (good u) (λ e. rw e) (λ e. rw (e, e))

-- where the code k of a verdict is asked for, a fault stays
pub fault_stays : {v x : Verdict} {k : ℕ} → v ≡ x → k ≡ code_of v → (w : Verdict) → (k ≡ 0 → ⊥) → v ≡ x or_else w
unfolding ◌or_else◌
fault_stays {v} same code w h = rw (← same, is_fault v (λ e. h (code ∙ e)))

-- ---- as a check answers

module _ (v : Verdict) where
  -- it passes a good verdict
  pub passed : {u : Unit {0}} → Ok u ≡ judged v → good v ≡ true
  unfolding judged
  passed {u} e = by_test (good v) (λ t. t) (λ f. let no : Ok u ≡ Err v = e ∙ rw f in cc)

  -- and refuses another
  pub refused : {r : Verdict} → Err r ≡ judged v → (good v ≡ false) × (r ≡ v)
  unfolding judged
  refused {r} e =
      by_test (good v) (λ t. let no : Err r ≡ Ok tt = e ∙ rw t in cc) (λ f. (f, let same : Err r ≡ Err v = e ∙ rw f in cc))

  -- a refusal stays
  pub refusal_stays : (w : Verdict) {r : Verdict} → Err r ≡ judged v → Err r ≡ judged (v or_else w)
  unfolding ◌or_else◌
  refusal_stays w e = rw ((refused e).0) e

  -- after none comes the next
  pub next_decides : (w : Verdict) {u : Unit {0}} → Ok u ≡ judged v → v or_else w ≡ w
  unfolding ◌or_else◌
  next_decides w e = rw (passed e)
