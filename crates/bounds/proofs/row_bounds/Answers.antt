-- `bounds::row_bounds` meets its contract: after j jobs the bounds are those over j jobs, and job j stands before its first part.
use Prim.Native.Nat.{ℕ, suc, ◌+◌, ◌≤◌, ◌<◌}
use mathlib.Core.Path.{◌≡◌, refl, ap, subst, ◌∙◌}
use mathlib.Core.List.{List}
use native.Mathlib.Nat.{le_antisymm}
use native.Mathlib.Omega.{arith}
use lib.ListN.{drop, replicate}
use Rattle.std.proofs.lemmas.List.{take_rest}
use Rattle.model.specs.Bounds.{up}
use Rattle.bounds.specs.declared.Load.{Load}
use Rattle.bounds.specs.declared.Job.{Job}
use Rattle.bounds.specs.declared.Own.{Own}
use Rattle.bounds.specs.Loads.{first_period, first_cost}
use Rattle.bounds.specs.Promises.{OwnRow, AtJob, JobLeft, job_at, bounds_after, bounds_in}
use Rattle.bounds.proofs.AllJobs.{first_period-at, has_own, times-cost, window_small}
use Rattle.bounds.proofs.AllJobs.{at-job, base_small, job_in_window, jobs_past_window}
use Rattle.bounds.proofs.row_bounds.Invariants.{JobsDone}
use Rattle.bounds.proofs.row_bounds.Goals as goal

module _ {own_first preempts : List Load} {own : Own} {times bounds : List ℕ} {job : Job} (g : OwnRow own_first preempts own times)
    (d : JobsDone own_first preempts own times bounds job) where
  -- after the last job the bounds are there
  all_done : own.window ≤ job.release → bounds ≡ bounds_in own_first preempts own times
  unfolding bounds_in
  all_done past =
      let most = jobs_past_window g d.j (subst (λ (k : Job). own.window ≤ k.release) d.stands past) in
      d.largest ∙ ap (bounds_after own_first preempts own times) (le_antisymm d.few most)

  module _ (more : job.release < own.window) where
    -- a job that is released in the window is looked at
    looked : d.j < up own.window (first_period own_first)
    looked = job_in_window g d.j (subst (λ (k : Job). k.release < own.window) d.stands more)

    -- its work fits in the window
    fits : job.base + first_cost own_first ≤ 16777215
    fits = omega (arith, ap (λ (k : Job). k.base) d.stands, base_small g d.j looked)

    -- it stands before its first part
    asked : AtJob (drop 1 own_first) preempts own.cooperative job times
    asked = rw d.stands (at-job g d.j looked)

    -- and the walk goes on
    one_more : (new : List ℕ) (base from : ℕ) → JobLeft (drop 1 own_first) preempts own.cooperative job times bounds new base from
        → JobsDone own_first preempts own times new
        (record { base = base; from = from; release = job.release + first_period own_first })
    unfolding job_at bounds_after
    one_more new base from left =
        record {
          j = suc d.j;
          few = looked;
          stands = rw (left.done, left.at, times-cost g, d.stands);
          largest = rw (left.bounds, d.stands, d.largest);
        }

pub loop-job-init : goal.loop-job-init
unfolding job_at bounds_after
loop-job-init c =
    record {
      j = 0;
      few = omega arith;
      stands = refl;
      largest = c.fill.ensures.after (λ y e. e) ∙ ap (λ (n : ℕ). replicate n 0) c.requires.bounds_len;
    }

pub job_parts-base-requires-clause-at_job : goal.job_parts-base-requires-clause-at_job
job_parts-base-requires-clause-at_job c =
    rw (take_rest c.args.loads.rows.now 1) (asked c.requires.own_row c.loop-job.invariant c.loop-job-test.true)

pub overflow_add-release : goal.overflow_add-release
overflow_add-release c = omega (arith, window_small c.requires.own_row)

pub loop-job-preserved : goal.loop-job-preserved
loop-job-preserved c =
    let some = has_own c.requires.own_row in
    let left = rw (take_rest c.args.loads.rows.now 1) at c.job_parts-base.ensures in
    rw first_period-at (one_more c.requires.own_row c.loop-job.invariant c.loop-job-test.true _ _ _ left)

pub returns : goal.returns
returns c = all_done c.requires.own_row c.loop-job.invariant c.loop-job-test.false
