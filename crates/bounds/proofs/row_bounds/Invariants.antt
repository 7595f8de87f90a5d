-- `bounds::row_bounds` meets its contract: after j jobs the bounds are those over j jobs, and job j stands before its first part.
use Prim.Native.Nat.{ℕ, ◌-◌, ◌≤◌}
use mathlib.Core.Path.{◌≡◌}
use mathlib.Core.List.{List}
use Rattle.model.specs.Bounds.{up}
use Rattle.bounds.specs.declared.Load.{Load}
use Rattle.bounds.specs.declared.Job.{Job}
use Rattle.bounds.specs.declared.Own.{Own}
use Rattle.bounds.specs.Loads.{first_period}
use Rattle.bounds.specs.Promises.{job_at, bounds_after}
use Rattle.bounds.proofs.row_bounds.Given as goal

-- j jobs are done
pub record JobsDone (own_first preempts : List Load) (own : Own) (times bounds : List ℕ) (job : Job) : Type 0 where
  pub j : ℕ
  pub few : j ≤ up own.window (first_period own_first)
  pub stands : job ≡ job_at own_first preempts own times j
  pub largest : bounds ≡ bounds_after own_first preempts own times j

abbrev pub invariant-loop-job : goal.invariant-loop-job
invariant-loop-job l = JobsDone l.loads.rows.now l.preemptive.rows.now l.own l.times l.bounds l.job

abbrev pub decreases-loop-job : goal.decreases-loop-job
decreases-loop-job l = l.own.window - l.job.release
