-- Busy ticks do a tick of work each for the row and the higher ones, but for at most `blocking` ticks of a lower open part.
-- From what a busy tick runs.
use Prim.Native.Nat.{ℕ, zero, suc, ◌+◌, ◌≤◌, ◌<◌}
use mathlib.Core.Path.{◌≡◌, ap, ◌∙◌, subst}
use mathlib.Core.Option.{some}
use mathlib.Core.Bool.{true}
use native.Mathlib.Omega.{arith}
use native.Mathlib.Nat.{add-zero, add-suc}
use borrow.Author.Tests.{eq-eqb}
use Rattle.lists.specs.Lists.{◌∈◌, total}
use Rattle.lists.proofs.Totals.{total-le, total-lt}
use Rattle.model.specs.Task.{Task, part}
use Rattle.model.specs.Bounds.{cooperative, blocking}
use Rattle.model.specs.Machine.{Stand}
use Rattle.model.proofs.Blocking.{blocking-part}
use Rattle.machine.proofs.Play.{Play}
use Rattle.machine.proofs.Ticks.{now, running, tick, after_tick_lem, open_uses, only, priorities}
use Rattle.machine.proofs.Worked.{worked, rises, keeps_work}
use Rattle.machine.proofs.Open.{one_open}
use Rattle.machine.proofs.Busy.{upward, upward_in, in_upward, Busy, Below, Runs, upper_runs, open_runs_on, busy_runs}

module _ (play : Play) (row : Task) (m : row ∈ play.rows) where
  open play use {rows, run}

  -- a lower part less the tick that it has run is no longer than the blocking
  blocks : (u : Task) → Below play row m u → (r : ℕ) → part u r ≤ suc (blocking rows row)
  unfolding cooperative
  blocks u b r =
      let coop : cooperative row ≡ true = eq-eqb row.kind 1 b.row-kind in
      blocking-part rows row coop u b.its_row b.lower r

  -- the work of the row and the higher ones before tick t
  abbrev pub work_up : ℕ → ℕ
  work_up t = total (λ u. worked u (now play t u)) (upward play row m)

  -- if u has a part open, what is left of it and `low` ticks more fit in the blocking
  abbrev pub Fits : ℕ → Task → Stand → Type 0
  Fits low u s = 0 < s.ran → low + run.uses u s.done s.at ≤ blocking rows row + s.ran

  -- what d busy ticks from t to e have done: `low` of them ran a lower part
  pub record Count (t d e : ℕ) : Type 0 where
    pub low : ℕ
    pub low-most : low ≤ blocking rows row
    pub sums : d + work_up t ≤ work_up e + low
    pub left : (u : Task) → Below play row m u → Fits low u (now play e u)

  -- no tick takes from it
  work_up_keeps : (e : ℕ) → work_up e ≤ work_up (suc e)
  work_up_keeps e = total-le _ _ (upward play row m) (λ u k. keeps_work play e u (upward_in play row m u k).0)

  -- one more tick that runs the row or a higher one
  count_upper : (t d e : ℕ) (s : Task) → Count t d e → running play e ≡ some s → s ∈ rows → row.priority ≤ s.priority
      → Count t (suc d) (suc e)
  count_upper t d e s c p n h = record { low = c.low; low-most = c.low-most; sums = sums; left = left }
    where
      more : work_up e < work_up (suc e)
      more =
          total-lt _ _ (upward play row m) (λ u k. keeps_work play e u (upward_in play row m u k).0) s
          (in_upward play row m s n h) (rises play e s n p)

      sums : suc d + work_up t ≤ work_up (suc e) + c.low
      sums = omega (arith, c.sums, more)

      left : (u : Task) → Below play row m u → Fits c.low u (now play (suc e) u)
      left u b =
          tick play e u b.its_row (Fits c.low u) (λ q. absurd (omega (arith, b.lower, priorities (only p q))))
          (λ q. c.left u b)

  -- one more tick that runs a lower open part: no other lower part is open
  count_open : (t d e : ℕ) (s : Task) → Count t d e → running play e ≡ some s → Below play row m s → 0 < (now play e s).ran
      → Count t (suc d) (suc e)
  count_open t d e s c p b o = record { low = suc c.low; low-most = low-most; sums = sums; left = left }
    where
      low-most : suc c.low ≤ blocking rows row
      low-most = omega (arith, c.left s b o, (open_uses play e s b.its_row o).0)

      sums : suc d + work_up t ≤ work_up (suc e) + suc c.low
      sums = omega (arith, c.sums, work_up_keeps e)

      runs_on : (u : Task) → Below play row m u → s ≡ u
          → Fits (suc c.low) u (record { done = (now play e u).done; at = (now play e u).at; ran = suc (now play e u).ran })
      runs_on u k same o' = omega (arith, c.left u k (subst (λ (v : Task). 0 < (now play e v).ran) same o))

      left : (u : Task) → Below play row m u → Fits (suc c.low) u (now play (suc e) u)
      left u k =
          tick play e u k.its_row (Fits (suc c.low) u)
          (λ q.
          after_tick_lem play u (now play e u) (Fits (suc c.low) u) (λ more. runs_on u k (only p q))
          (λ over more o'. absurd (omega arith)) (λ over all o'. absurd (omega arith)))
          (λ q o'. absurd (q (p ∙ ap some (one_open play e s u b.its_row b.kind o k.its_row k.kind o'))))

  -- one more busy tick
  count_tick : (t d e : ℕ) → Count t d e → Busy play row m e → Count t (suc d) (suc e)
  count_tick t d e c b = let w = busy_runs play row m e b in go w.0 w.1 w.2
    where
      go : (s : Task) → running play e ≡ some s → Runs play row m e s → Count t (suc d) (suc e)
      go s p (upper_runs n h) = count_upper t d e s c p n h
      go s p (open_runs_on k o) = count_open t d e s c p k o

  -- d busy ticks from tick t
  pub count : (t d : ℕ) → ((u : ℕ) → t ≤ u → u < t + d → Busy play row m u) → Count t d (t + d)
  count t zero h = rw add-zero (record { low = 0; low-most = omega arith; sums = omega arith; left = left })
    where
      left : (u : Task) → Below play row m u → Fits 0 u (now play t u)
      left u b o = omega (arith, (open_uses play t u b.its_row o).1, blocks u b (now play t u).at)
  count t (suc d) h =
      rw add-suc
      (count_tick t d (t + d) (count t d (λ u a b. h u a (omega arith))) (h (t + d) (omega arith) (omega arith)))
