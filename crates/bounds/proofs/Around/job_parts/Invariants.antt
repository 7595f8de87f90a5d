-- `bounds::Around::job_parts` meets its contract: the parts before r are raised, and the job stands before part r.
use Prim.Native.Nat.{ℕ}
use mathlib.Core.Path.{◌≡◌}
use mathlib.Core.Bool.{Bool}
use mathlib.Core.List.{List}
use Rattle.lists.specs.Lists.{listed, over}
use Rattle.bounds.specs.declared.Load.{Load}
use Rattle.bounds.specs.declared.Job.{Job}
use Rattle.bounds.specs.Promises.{base_at, from_at, raised_at}
use Rattle.bounds.proofs.Around.job_parts.Given as goal

-- the walk before part r
pub record PartsDone (highers preempts : List Load) (coop : Bool) (job : Job) (times old new : List ℕ) (done at r : ℕ) : Type 0 where
  pub base : done ≡ base_at job times r
  pub from : at ≡ from_at highers preempts coop job times r
  pub bounds : new ≡ over (listed (raised_at highers preempts coop job times old) r) old

abbrev pub invariant-loop-r : goal.invariant-loop-r
invariant-loop-r l =
    PartsDone l.self.higher.rows.now l.self.preemptive.rows.now l.self.cooperative l.job l.times l.initial.bounds l.bounds l.done l.at l.r
