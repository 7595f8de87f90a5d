-- The work of a task up to where it stands, each part taken at its worst time: a tick adds to it for the task that it runs and
-- takes from none, and it says which jobs and parts have ended. From what a tick does.
use Prim.Native.Nat.{ℕ, suc, ◌+◌, ◌*◌, ◌≤◌, ◌<◌}
use mathlib.Core.Path.{◌≡◌, refl, ap}
use mathlib.Core.Option.{some}
use mathlib.Core.Logic.{inl, inr, ⊎_elim}
use native.Mathlib.Omega.{arith}
use native.Mathlib.Nat.{suc-mul, mul-le-mul_right, eq-or-lt_of_le}
use Rattle.lists.specs.Lists.{◌∈◌}
use Rattle.lists.proofs.Tests.{either, not_below}
use Rattle.model.specs.Task.{Task, parts_before, cost}
use Rattle.model.specs.Machine.{Stand, released, Ended}
use Rattle.model.proofs.Released.{grows}
use Rattle.model.proofs.Parts.{parts-zero, parts-suc, parts_mono, parts-cost, part_pos}
use Rattle.machine.proofs.Play.{Play}
use Rattle.machine.proofs.Releases.{uses_within}
use Rattle.machine.proofs.Ticks.{now, next, running, tick, after_tick_lem, stands}

-- the jobs that are done, the parts before the one that the task is at, and the ticks of that one
unfoldable pub worked : Task → Stand → ℕ
worked row s = s.done * cost row + parts_before row s.at + s.ran

module _ (play : Play) where
  open play use {rows, run, core}

  -- the work lies within the part that the task is at
  pub in_part : (t : ℕ) (row : Task) → row ∈ rows
      → parts_before row (now play t row).at + (now play t row).ran < parts_before row (suc (now play t row).at)
  in_part t row m =
      let g = stands play t row m in
      let one_more = parts-suc row (now play t row).at in
      ⊎_elim
      (λ lt. omega (arith, g.within lt, (uses_within play row m (now play t row).done t (now play t row).at lt g.fits).most))
      (λ le. omega (arith, g.rested le, part_pos row (core.good row m) (now play t row).at g.fits))
      (either (now play t row).done (released run row t))

  -- a tick adds to the work of the task that it runs
  climbs : (t : ℕ) (row : Task) → row ∈ rows → worked row (now play t row) < worked row (next play t row)
  unfolding worked
  climbs t row m =
      let inside = in_part t row m in
      after_tick_lem play row (now play t row) (λ s. worked row (now play t row) < worked row s) (λ lt. omega arith)
      (λ o lt. omega arith)
      (λ o le.
      omega (
        arith,
        parts-zero row,
        parts-cost row (suc (now play t row).at),
        suc-mul (now play t row).done (cost row),
      ))

  -- so the work of the task that runs rises
  pub rises : (t : ℕ) (row : Task) → row ∈ rows → running play t ≡ some row
      → worked row (now play t row) < worked row (now play (suc t) row)
  rises t row m e =
      tick play t row m (λ s. worked row (now play t row) < worked row s) (λ q. climbs t row m) (λ n. absurd (n e))

  -- it leaves the work of the others
  pub rests : (t : ℕ) (row : Task) → row ∈ rows → (running play t ≡ some row → ⊥)
      → worked row (now play (suc t) row) ≡ worked row (now play t row)
  rests t row m n = tick play t row m (λ s. worked row s ≡ worked row (now play t row)) (λ e. absurd (n e)) (λ n. refl)

  -- so no work is lost
  pub keeps_work : (t : ℕ) (row : Task) → row ∈ rows → worked row (now play t row) ≤ worked row (now play (suc t) row)
  keeps_work t row m =
      tick play t row m (λ s. worked row (now play t row) ≤ worked row s) (λ e. omega (arith, climbs t row m)) (λ n. omega arith)

  -- at a later tick there is no less
  pub work_grows : (row : Task) → row ∈ rows → (t u : ℕ) → t ≤ u → worked row (now play t row) ≤ worked row (now play u row)
  work_grows row m = grows (λ t. worked row (now play t row)) (λ t. keeps_work t row m)

  -- what the work of a task before tick t says of where it stands
  module _ (t : ℕ) (row : Task) (m : row ∈ rows) where
    -- where it stands
    abbrev here : Stand
    here = now play t row

    -- the jobs up to the one that it is at have their work done
    job_begun : (q : ℕ) → q ≤ here.done → q * cost row ≤ worked row here
    unfolding worked
    job_begun q h = omega (arith, mul-le-mul_right (cost row) h)

    -- and the one that it is at has not
    job_short : (q : ℕ) → here.done < q → worked row here < q * cost row
    unfolding worked
    job_short q h =
        let inside = in_part t row m in
        let whole = parts-cost row (suc here.at) in
        omega (arith, suc-mul here.done (cost row), mul-le-mul_right (cost row) h)

    -- work short of the end of job q: the task is at most at job q
    pub job_at-most : (q : ℕ) → worked row here < suc q * cost row → here.done ≤ q
    job_at-most q h = not_below here.done q (λ lt. omega (arith, job_begun (suc q) lt))

    -- at job q the work tells the part
    module _ (q r : ℕ) (e : here.done ≡ q) where
      -- the jobs before it
      same_jobs : here.done * cost row ≡ q * cost row
      same_jobs = ap (λ (n : ℕ). n * cost row) e

      -- the work up to the end of part r is done: the task is past it
      part_done : q * cost row + parts_before row (suc r) ≤ worked row here → r < here.at
      unfolding worked
      part_done h =
          not_below (suc r) here.at
          (λ lt. omega (arith, same_jobs, in_part t row m, parts_mono row (suc here.at) (suc r) lt))

      -- work within part r: the part has run a tick
      part_begun : q * cost row + parts_before row r < worked row here → worked row here < q * cost row + parts_before row (suc r)
          → 0 < here.ran
      unfolding worked
      part_begun h k =
          not_below 1 here.ran
          (λ shut.
          ⊎_elim (λ lt. omega (arith, same_jobs, parts_mono row (suc r) here.at lt))
          (λ le. omega (arith, same_jobs, parts_mono row here.at r le)) (either r here.at))

    -- the work of job q up to the end of part r is done: the part has ended
    pub ended : (q r : ℕ) → q * cost row + parts_before row (suc r) ≤ worked row here → Ended here q r
    unfolding Ended
    ended q r h =
        ⊎_elim (λ lt. inl lt)
        (λ le.
        ⊎_elim (λ e. inr (e, part_done q r e h)) (λ lt. absurd (omega (arith, job_short q lt))) (eq-or-lt_of_le le))
        (either q here.done)

    -- some of the work of part r is done, and not all: the part has run a tick
    pub begun_open : (q r : ℕ) → q * cost row + parts_before row r < worked row here
        → worked row here < q * cost row + parts_before row (suc r) → 0 < here.ran
    begun_open q r h k =
        ⊎_elim (λ lt. absurd (after lt))
        (λ le. ⊎_elim (λ e. part_begun q r e h k) (λ lt. absurd (omega (arith, job_short q lt))) (eq-or-lt_of_le le))
        (either q here.done)
      where
        after : q < here.done → ⊥
        after lt = omega (arith, job_begun (suc q) lt, suc-mul q (cost row), parts-cost row (suc r))

    -- all released jobs are done: all their work is
    pub quiet_work : released run row t ≤ here.done → worked row here ≡ released run row t * cost row
    unfolding worked
    quiet_work h =
        let g = stands play t row m in
        let all : here.done ≡ released run row t = omega (arith, g.known) in
        let first : here.at ≡ 0 = omega (arith, g.rested h) in
        omega (
          arith,
          g.rested h,
          parts-zero row,
          ap (λ (n : ℕ). n * cost row) all,
          ap (λ (n : ℕ). parts_before row n) first,
        )

    -- a released job is not done: not all their work is
    pub waiting_work : here.done < released run row t → worked row here < released run row t * cost row
    waiting_work h = job_short (released run row t) h

    -- in all, no more than the work of the released jobs
    pub at-most-released : worked row here ≤ released run row t * cost row
    at-most-released =
        ⊎_elim (λ lt. omega (arith, waiting_work lt)) (λ le. omega (arith, quiet_work le)) (either here.done (released run row t))
