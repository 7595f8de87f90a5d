-- Laws of `delay`, step by step from the front of a chain. Assumes nothing.
use Prim.Native.Nat.{◌+◌, ◌<◌}
use mathlib.Core.Path.{◌≡◌, refl}
use mathlib.Core.Bool.{true, false}
use mathlib.Core.List.{List, [], ◌∷◌}
use native.Mathlib.Omega.{arith}
use borrow.Author.Tests.{eqb-true, ltb-true, eq-eqb, lt-ltb}
use Rattle.lists.specs.Lists.{total}
use Rattle.lists.proofs.Tests.{both}
use Rattle.model.specs.Task.{Task}
use Rattle.model.specs.Chains.{Link, same_job, counts, counting, bound_of, step_delay, delay}

-- steps of one job: one id, and the later part number is larger
pub same_job_lem : (l m : Link) → same_job l m ≡ true → (l.task.id ≡ m.task.id) × (l.part < m.part)
unfolding same_job
same_job_lem l m e = let w = both _ _ e in (eqb-true _ _ w.0, ltb-true _ _ w.1)

-- and such steps are of one job
pub rising_same : (l m : Link) → (l.task.id ≡ m.task.id) × (l.part < m.part) → same_job l m ≡ true
unfolding same_job
rising_same l m r = rw (eq-eqb l.task.id m.task.id r.0, lt-ltb l.part m.part r.1)

module _ (tasks : List Task) where
  -- no step, no delay
  pub delay_none : delay tasks [] ≡ 0
  unfolding delay counting total
  delay_none = refl

  -- the last step counts
  pub delay-last : (l : Link) → delay tasks (l ∷ []) ≡ l.task.period + bound_of tasks l
  unfolding delay counting counts total step_delay
  delay-last l = omega arith

  -- a step counts whose job does not pass the next one
  pub delay_anew : (l m : Link) (ls : List Link) → same_job l m ≡ false
      → delay tasks (l ∷ m ∷ ls) ≡ l.task.period + bound_of tasks l + delay tasks (m ∷ ls)
  unfolding delay counting counts total step_delay
  delay_anew l m ls e = rw e

  -- one whose job does adds nothing
  pub delay_same : (l m : Link) (ls : List Link) → same_job l m ≡ true → delay tasks (l ∷ m ∷ ls) ≡ delay tasks (m ∷ ls)
  unfolding delay counting counts
  delay_same l m ls e = rw e
