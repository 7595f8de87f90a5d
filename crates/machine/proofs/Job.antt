-- A released job of a row, seen from t0, the last quiet tick up to its release: it is the j-th job after t0, one of those that the
-- window holds, and until it is done only so much other work is done. From the count since the last quiet tick.
use Prim.Native.Nat.{ℕ, suc, ◌+◌, ◌-◌, ◌*◌, ◌≤◌, ◌<◌}
use mathlib.Core.Path.{◌≡◌, refl, ap}
use mathlib.Core.List.Memᴰ
use mathlib.Core.Logic.{⊎_elim}
use native.Mathlib.Omega.{arith}
use native.Mathlib.Nat.{add-mul, mul-le-mul_right}
use Rattle.lists.specs.Lists.{◌∈◌, total}
use Rattle.lists.proofs.Tests.{either, not_below}
use Rattle.lists.proofs.Totals.{total-le, total-lt, total-add}
use Rattle.model.specs.Task.{Task, cost}
use Rattle.model.specs.Bounds.{before, higher, blocking, demand}
use Rattle.model.specs.Machine.{released, ReleasedIn}
use Rattle.model.proofs.Released.{released_grows}
use Rattle.model.proofs.Rounding.{before_covers}
use Rattle.model.proofs.Rows.{higher_in, period_pos}
use Rattle.machine.proofs.Play.{Play}
use Rattle.machine.proofs.Releases.{spaced, at-most-before}
use Rattle.machine.proofs.Ticks.{now}
use Rattle.machine.proofs.Worked.{worked, work_grows, job_at-most, waiting_work, at-most-released}
use Rattle.machine.proofs.Busy.{upward, upward_in, Busy}
use Rattle.machine.proofs.Count.{work_up}
use Rattle.machine.proofs.Quiet.{Waiting, LastQuiet, last_quiet, waiting_busy, from_quiet}

-- a job of a row in a run, and the tick that released it
pub record Job : Type 0 where
  pub play : Play
  pub row : Task
  pub its_row : row ∈ play.rows
  pub q : ℕ
  pub tick : ℕ
  pub is_released : ReleasedIn play.run row q tick

module _ (job : Job) where
  open job use {play, row, its_row, q, tick, is_released}
  open play use {rows, run, core}

  -- the last quiet tick up to its release
  quiet_tick : LastQuiet play row its_row tick
  quiet_tick = last_quiet play row its_row tick

  -- which all is counted from
  unfoldable pub t0 : ℕ
  unfolding quiet_tick
  t0 = quiet_tick.last

  -- the job's number among those released since t0
  unfoldable pub j : ℕ
  j = q - released run row t0

  -- the work of a row d ticks after t0
  abbrev pub done_by : Task → ℕ → ℕ
  done_by u d = worked u (now play (t0 + d) u)

  -- and among all
  q_is : q ≡ released run row t0 + j
  unfolding t0 j
  q_is = omega (arith, released_grows run row t0 tick quiet_tick.by_then, is_released.not_before)

  -- the job is released j periods after t0 or later
  pub later : t0 + j * row.period ≤ tick
  later = spaced play row its_row t0 j tick (rw q_is at is_released)

  -- all ticks from t0 to the end of the job are busy
  busy_until : (d : ℕ) → done_by row d < suc q * cost row → (u : ℕ) → t0 ≤ u → u < t0 + d → Busy play row its_row u
  unfolding t0
  busy_until d short u from to =
      ⊎_elim
      (λ early. waiting_busy play row its_row u (quiet_tick.waiting (suc u) (omega arith) early))
      (λ late. record { who = row; upper = Memᴰ.head refl; waits = omega (arith, at_q, known late) })
      (either u tick)
    where
      at_q : (now play u row).done ≤ q
      at_q = job_at-most play u row its_row q (omega (arith, work_grows play row its_row u (t0 + d) (omega arith)))

      known : tick ≤ u → q < released run row (suc u)
      known late = omega (arith, is_released.by_then, released_grows run row (suc tick) (suc u) (omega arith))

  -- n jobs released since t0 do no more than their work
  pub since : (u : Task) → u ∈ rows → (d n : ℕ) → released run u (t0 + d) ≤ released run u t0 + n
      → done_by u d ≤ released run u t0 * cost u + n * cost u
  since u i d n le =
      let all : done_by u d ≤ released run u (t0 + d) * cost u = at-most-released play (t0 + d) u i in
      omega (arith, mul-le-mul_right (cost u) le, add-mul (released run u t0) n (cost u))

  -- d ticks after t0, the job not done: the blocking, the work of the higher rows' jobs since t0 and the row's own fill the d ticks
  pub fill : (d : ℕ) (jobs : Task → ℕ) → done_by row d < suc q * cost row
      → ((u : Task) → u ∈ rows → row.priority < u.priority → done_by u d ≤ released run u t0 * cost u + jobs u * cost u)
      → d + q * cost row ≤ blocking rows row + total (λ u. jobs u * cost u) (higher rows row) + j * cost row + done_by row d
  unfolding t0 total
  fill d jobs short most =
      let counted = from_quiet play row its_row t0 d quiet_tick.quiet (busy_until d short) in
      let others : total (λ u. done_by u d) (higher rows row)
      ≤ total (λ u. released run u t0 * cost u + jobs u * cost u) (higher rows row) =
      total-le _ _ (higher rows row) (λ u n. (let w = higher_in rows row u n in most u w.0 w.1)) in
      let split = total-add (λ u. released run u t0 * cost u) (λ u. jobs u * cost u) (higher rows row) in
      let own : q * cost row ≡ (released run row t0 + j) * cost row = ap (λ (n : ℕ). n * cost row) q_is in
      omega (arith, add-mul (released run row t0) j (cost row))

  -- the job is one of those that the window holds: else all would be quiet again at the window's end, before its release
  pub in_window : (L : ℕ) → 0 < L → L ≡ demand rows row L → j < before row L
  unfolding t0 demand
  in_window L positive solves = not_below (suc j) (before row L) (λ le. out (omega arith))
    where
      reach : before row L ≤ j → t0 + L ≤ tick
      reach le =
          omega (
            arith,
            later,
            mul-le-mul_right row.period le,
            before_covers row (period_pos rows core row its_row) L,
          )

      most : (u : Task) → u ∈ upward play row its_row
          → released run u (t0 + L) * cost u ≤ released run u t0 * cost u + before u L * cost u
      most u n =
          omega (
            arith,
            mul-le-mul_right (cost u) (at-most-before play u (upward_in play row its_row u n).0 t0 L),
            add-mul (released run u t0) (before u L) (cost u),
          )

      counted : before row L ≤ j
          → L + total (λ u. released run u t0 * cost u) (upward play row its_row)
          ≤ work_up play row its_row (t0 + L) + blocking rows row
      counted le =
          from_quiet play row its_row t0 L quiet_tick.quiet
          (λ u l r. waiting_busy play row its_row u (quiet_tick.waiting (suc u) (omega arith) (omega (arith, reach le))))

      not-all : Waiting play row its_row (t0 + L)
          → work_up play row its_row (t0 + L)
          < total (λ u. released run u t0 * cost u + before u L * cost u) (upward play row its_row)
      not-all w =
          let i = (upward_in play row its_row w.who w.upper).0 in
          total-lt _ _ (upward play row its_row)
          (λ u n. omega (arith, at-most-released play (t0 + L) u (upward_in play row its_row u n).0, most u n)) w.who
          w.upper (omega (arith, waiting_work play (t0 + L) w.who i w.waits, most w.who w.upper))

      out : before row L ≤ j → ⊥
      out le =
          let waiting = quiet_tick.waiting (t0 + L) (omega arith) (reach le) in
          omega (
            arith,
            counted le,
            not-all waiting,
            total-add (λ u. released run u t0 * cost u) (λ u. before u L * cost u) (upward play row its_row),
          )
