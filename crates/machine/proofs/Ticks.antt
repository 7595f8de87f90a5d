-- What a tick does to where a task stands, and what holds of every task before every tick. From the rule of who runs.
use Prim.Native.Nat.{ℕ, zero, suc, ◌+◌, ◌≤◌, ◌<◌}
use mathlib.Core.Path.{◌≡◌, refl, ap, ◌∙◌, subst}
use mathlib.Core.Option.{Option, some, none}
use mathlib.Core.Logic.{⊎_elim}
use native.Mathlib.Omega.{arith}
use lib.Dec.{ltb, eqb}
use borrow.Author.Tests.{ltb-true, ltb-false, eqb-true, eqb-false}
use Rattle.lists.specs.Lists.{pick, ◌∈◌}
use Rattle.lists.proofs.Tests.{by_test, either, not_below}
use Rattle.model.specs.Task.{Task, parts, part}
use Rattle.model.specs.Machine.{Run, Stand, released, after_tick, is_task, runs, step, stand_at}
use Rattle.model.proofs.Rows.{same_row}
use Rattle.machine.proofs.Runs.{Chosen, cuts_in, goes_on, begins, chosen, chosen_row}
use Rattle.machine.proofs.Play.{Play, some_part}
use Rattle.machine.proofs.Releases.{uses_within}

-- equal tasks have one priority
pub priorities : {u v : Task} → u ≡ v → u.priority ≡ v.priority
priorities e = ap (λ (w : Task). w.priority) e

-- one task runs in a tick
pub only : {o : Option Task} {s u : Task} → o ≡ some s → o ≡ some u → s ≡ u
only p q = cc

-- what holds of a task before tick t
pub record Stands (run : Run) (row : Task) (t : ℕ) (s : Stand) : Type 0 where
  pub fits : s.at < parts row
  pub within : s.done < released run row t → s.ran < run.uses row s.done s.at
  pub known : s.done ≤ released run row t
  pub rested : released run row t ≤ s.done → s.at + s.ran ≡ 0

module _ (play : Play) where
  open play use {rows, run, core, allowed}

  -- where the tasks stand before tick t
  abbrev pub now : ℕ → Task → Stand
  now t = stand_at rows run t

  -- the task that runs in tick t
  abbrev pub running : ℕ → Option Task
  running t = runs rows run t (now t)

  -- where a task stands after running in tick t
  abbrev pub next : ℕ → Task → Stand
  next t row = after_tick row (run.uses row (now t row).done (now t row).at) (now t row)

  -- it is the one that the rule chooses
  pub running_chosen : (t : ℕ) {s : Task} → running t ≡ some s → Chosen rows run t (now t) (some s)
  running_chosen t e = subst (λ (o : Option Task). Chosen rows run t (now t) o) e (chosen rows run t (now t))

  -- a tick moves the task that runs, and no other
  pub tick : (t : ℕ) (row : Task) → row ∈ rows → (P : Stand → Type 0) → (running t ≡ some row → P (next t row))
      → ((running t ≡ some row → ⊥) → P (now t row)) → P (now (suc t) row)
  unfolding stand_at step is_task
  tick t row m P moves stays = go (running t) refl (chosen rows run t (now t))
    where
      go : (o : Option Task) → running t ≡ o → Chosen rows run t (now t) o → P (pick (is_task o row) (next t row) (now t row))
      go none e c = stays (λ q. (let z : ◌≡◌ {A = ℕ} 0 1 = cc in omega arith))
      go (some s) e c =
          let m' : s ∈ rows = chosen_row rows run t (now t) c in
          by_test (eqb s.priority row.priority)
          (λ h. rw h (moves (e ∙ ap some (same_row rows core.distinct s row m' m (eqb-true _ _ h)))))
          (λ h. rw h (stays (λ q. eqb-false _ _ h (priorities (only e q)))))

  -- a tick of a part: the part goes on, or the next part is due, or the next job
  pub after_tick_lem : (row : Task) (s : Stand) (P : Stand → Type 0)
      → (suc s.ran < run.uses row s.done s.at → P (record { done = s.done; at = s.at; ran = suc s.ran }))
      → (run.uses row s.done s.at ≤ suc s.ran → suc s.at < parts row
      → P (record { done = s.done; at = suc s.at; ran = 0 }))
      → (run.uses row s.done s.at ≤ suc s.ran → parts row ≤ suc s.at
      → P (record { done = suc s.done; at = 0; ran = 0 }))
      → P (after_tick row (run.uses row s.done s.at) s)
  unfolding after_tick
  after_tick_lem row s P on part job =
      by_test (ltb (suc s.ran) (run.uses row s.done s.at)) (λ e. rw e (on (ltb-true _ _ e)))
      (λ e.
      rw e
      (by_test (ltb (suc s.at) (parts row)) (λ q. rw q (part (ltb-false _ _ e) (ltb-true _ _ q)))
      (λ q. rw q (job (ltb-false _ _ e) (ltb-false _ _ q)))))

  -- the task that runs has a job that is released and not done
  pub running-waits : (t : ℕ) (row : Task) → Stands run row t (now t row) → running t ≡ some row
      → (now t row).done < released run row (suc t)
  unfolding released
  running-waits t row g e = go (running_chosen t e)
    where
      go : Chosen rows run t (now t) (some row) → (now t row).done < released run row (suc t)
      go (cuts_in m w top) = w.1
      go (goes_on m w no·) =
          ⊎_elim (λ lt. omega arith) (λ le. absurd (omega (arith, g.rested le, w.1))) (either (now t row).done (released run row t))
      go (begins m w no· shut top) = w.1

  -- a tick keeps what holds
  stands_next : (t : ℕ) (row : Task) → row ∈ rows → Stands run row t (now t row) → Stands run row (suc t) (now (suc t) row)
  unfolding released
  stands_next t row m g = tick t row m (Stands run row (suc t)) moves stays
    where
      moves : running t ≡ some row → Stands run row (suc t) (next t row)
      moves e =
          let h = running-waits t row g e in
          after_tick_lem row (now t row) (Stands run row (suc t))
          (λ lt. record { fits = g.fits; within = λ w. lt; known = omega arith; rested = λ le. absurd (omega arith) })
          (λ o lt.
          record {
            fits = lt;
            within = λ w. (uses_within play row m _ (suc t) _ w lt).least;
            known = omega arith;
            rested = λ le. absurd (omega arith);
          })
          (λ o le.
          record {
            fits = some_part play row m;
            within = λ w. (uses_within play row m _ (suc t) 0 w (some_part play row m)).least;
            known = h;
            rested = λ le. refl;
          })

      stays : (running t ≡ some row → ⊥) → Stands run row (suc t) (now t row)
      stays n =
          record {
            fits = g.fits;
            within = λ w.
                ⊎_elim (λ lt. g.within lt)
                (λ le. omega (arith, g.rested le, (uses_within play row m _ (suc t) _ w g.fits).least))
                (either (now t row).done (released run row t));
            known = omega (arith, g.known);
            rested = λ h. g.rested (omega arith);
          }

  -- so it holds before every tick
  pub stands : (t : ℕ) (row : Task) → row ∈ rows → Stands run row t (now t row)
  unfolding stand_at released
  stands zero row m =
      record { fits = some_part play row m; within = λ h. absurd (omega arith); known = omega arith; rested = λ h. refl }
  stands (suc t) row m = stands_next t row m (stands t row m)

  -- a part that has run a tick is of a released job, and has ticks left, within its worst time
  pub open_uses : (t : ℕ) (row : Task) → row ∈ rows → 0 < (now t row).ran
      → ((now t row).ran < run.uses row (now t row).done (now t row).at)
      × (run.uses row (now t row).done (now t row).at ≤ part row (now t row).at)
  open_uses t row m o =
      let g = stands t row m in
      let begun : (now t row).done < released run row t = not_below _ _ (λ le. omega (arith, g.rested (omega arith))) in
      (g.within begun, (uses_within play row m (now t row).done t (now t row).at begun g.fits).most)
