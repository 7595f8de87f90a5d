-- A row is busy in a tick in which it or a higher row is pending. Such a tick runs one of these rows, or the open part of a
-- lower task. From the rule of who runs and the order of kinds on a good core.
use Prim.Native.Nat.{ℕ, suc, ◌≤◌, ◌<◌}
use mathlib.Core.Path.{◌≡◌, refl, sym, subst}
use mathlib.Core.List.Memᴰ
use mathlib.Core.List.{List, ◌∷◌}
use mathlib.Core.Option.{Option, some}
use mathlib.Core.Logic.{⊎_elim}
use native.Mathlib.Omega.{arith}
use native.Mathlib.Nat.{eq-or-lt_of_le}
use Rattle.lists.specs.Lists.{◌∈◌}
use Rattle.lists.proofs.Tests.{either}
use Rattle.model.specs.Task.{Task}
use Rattle.model.specs.Bounds.{higher}
use Rattle.model.specs.Machine.{released}
use Rattle.model.proofs.Rows.{higher_in, in_higher, same_row}
use Rattle.machine.proofs.Play.{Play, kinds}
use Rattle.machine.proofs.Runs.{Chosen, cuts_in, goes_on, begins, idles, chosen, Waits, None}
use Rattle.machine.proofs.Ticks.{now, running, priorities}

module _ (play : Play) (row : Task) (m : row ∈ play.rows) where
  open play use {rows, run, core}

  -- this row and all higher rows
  abbrev pub upward : List Task
  upward = row ∷ higher rows row

  -- one of them is a row of the core, no lower than this row
  pub upward_in : (u : Task) → u ∈ upward → (u ∈ rows) × (row.priority ≤ u.priority)
  upward_in u n =
      ⊎_elim (λ e. (subst (λ (v : Task). v ∈ rows) (sym e) m, omega (arith, priorities e)))
      (λ k. (let w = higher_in rows row u k in (w.0, omega (arith, w.1)))) (Memᴰ.cases_cons n)

  -- and each such row is one of them
  pub in_upward : (u : Task) → u ∈ rows → row.priority ≤ u.priority → u ∈ upward
  in_upward u n h =
      ⊎_elim (λ e. Memᴰ.head (same_row rows core.distinct u row n m (sym e)))
      (λ lt. Memᴰ.tail (in_higher rows row u n lt)) (eq-or-lt_of_le h)

  -- the row or a higher one is pending in tick t
  pub record Busy (t : ℕ) : Type 0 where
    pub who : Task
    pub upper : who ∈ upward
    pub waits : (now play t who).done < released run who (suc t)

  -- a row below a cooperative one, which is cooperative then
  pub record Below (u : Task) : Type 0 where
    pub its_row : u ∈ rows
    pub row-kind : row.kind ≡ 1
    pub kind : u.kind ≡ 1
    pub lower : u.priority < row.priority

  -- what a busy tick runs
  pub data Runs (t : ℕ) (s : Task) : Type 0 where
    upper_runs : s ∈ rows → row.priority ≤ s.priority → Runs t s
    open_runs_on : Below s → 0 < (now play t s).ran → Runs t s

  -- a busy tick runs one of them, or a lower part that was open
  pub busy_runs : (t : ℕ) → Busy t → (s : Task) × (running play t ≡ some s) × Runs t s
  busy_runs t b = go (running play t) refl (chosen rows run t (now play t))
    where
      u : Task
      u = b.who

      n : u ∈ rows
      n = (upward_in u b.upper).0

      over : row.priority ≤ u.priority
      over = (upward_in u b.upper).1

      -- the pending task is cooperative if no preemptive one is pending, and then so is the row below it
      late : None rows run t (now play t) (Waits rows run t (now play t) 0) → u.kind ≡ 1
      late no· = ⊎_elim (λ z. absurd (no· u n (z, b.waits))) (λ z. z) (kinds play u n)

      row-late : u.kind ≡ 1 → row.kind ≡ 1
      row-late z = ⊎_elim (λ y. absurd (omega (arith, over, core.ordered row u m n y z))) (λ y. y) (kinds play row m)

      go : (o : Option Task) → running play t ≡ o → Chosen rows run t (now play t) o
          → (s : Task) × (running play t ≡ some s) × Runs t s
      go o e (cuts_in {s = s} i w top) =
          let above : u.priority ≤ s.priority =
          ⊎_elim (λ z. top u n (z, b.waits)) (λ z. omega (arith, core.ordered s u i n w.0 z)) (kinds play u n) in
          (s, e, upper_runs i (omega (arith, over)))
      go o e (goes_on {s = s} i w no·) =
          let below : s.priority < row.priority → Below s =
          λ lt. record { its_row = i; row-kind = row-late (late no·); kind = w.0; lower = lt } in
          (s, e, ⊎_elim (λ lt. open_runs_on (below lt) w.1) (λ le. upper_runs i le) (either s.priority row.priority))
      go o e (begins {s = s} i w no· shut top) =
          (s, e, upper_runs i (omega (arith, over, top u n (late no·, b.waits))))
      go o e (idles no· no·') =
          absurd (⊎_elim (λ z. no· u n (z, b.waits)) (λ z. no·' u n (z, b.waits)) (kinds play u n))
