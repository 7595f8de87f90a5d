-- Demand 3 holds: the end found for the job's place in the window bounds it, and the bound is the largest of these. From where
-- ends lie in a window, and from ticks by which a part has ended.
use Prim.Native.Nat.{ℕ, ◌+◌, ◌-◌, ◌*◌, ◌≤◌, ◌<◌}
use mathlib.Core.Path.{◌≡◌, ap, ◌∙◌}
use native.Mathlib.Omega.{arith}
use Rattle.lists.proofs.Tests.{by_test}
use Rattle.std.specs.Prelude.{Some}
use Rattle.model.specs.Least.{value}
use Rattle.model.specs.Task.{parts}
use Rattle.model.specs.Bounds.{limit, before, cooperative, window, jobs, preemptive_end, start, end_from, finish, response, bound}
use Rattle.model.proofs.Blocking.{no_blocking}
use Rattle.model.proofs.Exists.{the_window, preemptive_range, cooperative_range}
use Rattle.model.proofs.Least.{least_at}
use Rattle.model.proofs.Responses.{response-at}
use Rattle.model.proofs.Rows.{is_cooperative}
use Rattle.machine.specs.NoRunIsLater.{NeverLater, NoRunIsLater}
use Rattle.machine.proofs.Play.{Play}
use Rattle.machine.proofs.Worked.{work_grows, ended}
use Rattle.machine.proofs.Job.{Job, t0, j, done_by, later, in_window}
use Rattle.machine.proofs.Ends.{part_end, preemptive_ends, cooperative_ends}

module _ (job : Job) (L : ℕ) (found : window job.play.rows job.row ≡ Some L) where
  open job use {play, row, its_row}
  open play use {rows, core}

  -- the job is one of those looked at
  looked_at : j job < before row L
  looked_at =
      let w = the_window rows core row its_row L found in
      in_window job L w.above w.solves

  module _ (r : ℕ) (inside : r < parts row) where
    -- by the end found for it the part has ended
    found-end : (f : ℕ) × (finish rows row r (j job) ≡ Some f) × (part_end job r ≤ done_by job row f)
    unfolding preemptive_end start end_from finish
    found-end =
        by_test (cooperative row)
        (λ c.
        (let e = cooperative_range rows core row its_row L found r (j job) inside looked_at c in
        let starts = (least_at _ 0 limit e.starts).solves in
        let ends = (least_at _ _ limit e.ends).solves in (
          e.f,
          rw (c, finish) (ap (end_from rows row r (j job)) e.starts ∙ e.ends),
          cooperative_ends job r inside (is_cooperative row c) e.s starts e.f ends,
        )))
        (λ c.
        (let e = preemptive_range rows core row its_row L found r (j job) inside looked_at c in
        let ends = (least_at _ 1 limit e.ends).solves in
        (e.f, rw (c, finish) e.ends, preemptive_ends job r (no_blocking rows row c) e.f ends)))

    -- the bound is at least that end, less the periods before the job
    in_bound : (f : ℕ) → finish rows row r (j job) ≡ Some f → f ≤ bound rows row r + j job * row.period
    unfolding value jobs response
    in_bound f e =
        let all : jobs rows row ≡ before row L = ap (λ o. before row (value o)) found in
        let this : response rows row r (j job) ≡ f - j job * row.period = ap (λ o. value o - j job * row.period) e in
        omega (arith, response-at rows row r (j job) (omega (arith, looked_at)))

-- demand 3
pub no_run_is_later : NoRunIsLater
unfolding NeverLater NoRunIsLater
no_run_is_later rows core row m L found run allowed q r t u released inside late =
    let e = found-end job L found r inside in
    let by_then : t0 job + e.0 ≤ u = omega (arith, in_bound job L found r inside e.0 e.1, later job) in
    ended play u row m q r (omega (arith, e.2, work_grows play row m (t0 job + e.0) u by_then))
  where
    play : Play
    play = record { rows = rows; run = run; core = core; allowed = allowed }

    job : Job
    job = record { play = play; row = row; its_row = m; q = q; tick = t; is_released = released }
