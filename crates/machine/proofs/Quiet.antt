-- A tick is quiet for a row if all jobs of it and the higher rows that were released before are done. After the last quiet tick
-- all ticks are busy, and the work done since then is counted. From the count of busy ticks.
use Prim.Native.Nat.{ℕ, zero, suc, ◌+◌, ◌*◌, ◌≤◌, ◌<◌}
use mathlib.Core.Path.{sym, subst}
use mathlib.Core.Logic.{⊎_elim}
use native.Mathlib.Omega.{arith}
use native.Mathlib.Nat.{eq-or-lt_of_le}
use Rattle.lists.specs.Lists.{◌∈◌, total}
use Rattle.lists.proofs.Members.{all-or-one}
use Rattle.lists.proofs.Totals.{total-le}
use Rattle.model.specs.Task.{Task, cost}
use Rattle.model.specs.Bounds.{blocking}
use Rattle.model.specs.Machine.{released}
use Rattle.machine.proofs.Play.{Play}
use Rattle.machine.proofs.Ticks.{now, tick, after_tick_lem}
use Rattle.machine.proofs.Worked.{quiet_work}
use Rattle.machine.proofs.Busy.{upward, upward_in, Busy}
use Rattle.machine.proofs.Count.{work_up, count}

module _ (play : Play) (row : Task) (m : row ∈ play.rows) where
  open play use {rows, run}

  -- all jobs of the row and the higher ones that were released before tick t are done
  abbrev pub Quiet : ℕ → Type 0
  Quiet t = (u : Task) → u ∈ upward play row m → released run u t ≤ (now play t u).done

  -- not quiet: a job released before is not done
  pub record Waiting (t : ℕ) : Type 0 where
    pub who : Task
    pub upper : who ∈ upward play row m
    pub waits : (now play t who).done < released run who t

  -- the last quiet tick up to tick t
  pub record LastQuiet (t : ℕ) : Type 0 where
    pub last : ℕ
    pub by_then : last ≤ t
    pub quiet : Quiet last
    pub waiting : (u : ℕ) → last < u → u ≤ t → Waiting u

  -- no tick takes back a job that is done
  done_grows : (t : ℕ) (u : Task) → u ∈ rows → (now play t u).done ≤ (now play (suc t) u).done
  done_grows t u n =
      tick play t u n (λ s. (now play t u).done ≤ s.done)
      (λ e.
      after_tick_lem play u (now play t u) (λ s. (now play t u).done ≤ s.done) (λ lt. omega arith) (λ o lt. omega arith)
      (λ o le. omega arith))
      (λ e. omega arith)

  -- the tick before one that is not quiet is busy
  pub waiting_busy : (t : ℕ) → Waiting (suc t) → Busy play row m t
  waiting_busy t w =
      record {
        who = w.who;
        upper = w.upper;
        waits = omega (arith, w.waits, done_grows t w.who (upward_in play row m w.who w.upper).0);
      }

  -- nothing is pending at the start, so there is a last quiet tick
  pub last_quiet : (t : ℕ) → LastQuiet t
  unfolding released
  last_quiet zero =
      record { last = 0; by_then = omega arith; quiet = λ u n. omega arith; waiting = λ u a b. absurd (omega arith) }
  last_quiet (suc t) =
      ⊎_elim
      (λ q. record { last = suc t; by_then = omega arith; quiet = q; waiting = λ u a b. absurd (omega arith) })
      (λ w. later (last_quiet t) (record { who = w.0; upper = w.1; waits = w.2 }))
      (all-or-one (λ u. released run u (suc t)) (λ u. (now play (suc t) u).done) (upward play row m))
    where
      later : LastQuiet t → Waiting (suc t) → LastQuiet (suc t)
      later l w =
          record {
            last = l.last;
            by_then = omega (arith, l.by_then);
            quiet = l.quiet;
            waiting = λ u a b.
                ⊎_elim (λ e. subst Waiting (sym e) w) (λ lt. l.waiting u a (omega arith)) (eq-or-lt_of_le b);
          }

  -- d busy ticks from a quiet one do the jobs released before it, and d ticks more but for the blocking
  pub from_quiet : (a d : ℕ) → Quiet a → ((u : ℕ) → a ≤ u → u < a + d → Busy play row m u)
      → d + total (λ u. released run u a * cost u) (upward play row m) ≤ work_up play row m (a + d) + blocking rows row
  from_quiet a d q h =
      let c = count play row m a d h in
      let old : total (λ u. released run u a * cost u) (upward play row m) ≤ work_up play row m a =
      total-le _ _ (upward play row m)
      (λ u n. omega (arith, quiet_work play a u (upward_in play row m u n).0 (q u n))) in
      omega (arith, c.sums, c.low-most)
