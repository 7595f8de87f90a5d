-- The rows that a table without a fault uses, each with its task, which is a good one. Assumes nothing.
use Prim.Native.Nat.{ℕ, ◌≤◌, ◌<◌}
use native.Mathlib.Omega.{arith}
use mathlib.Core.Path.{◌≡◌, sym, ap, ◌∙◌}
use mathlib.Core.List.{List}
use lib.ListN.{length, get_or, length-map}
use Rattle.lists.specs.Lists.{◌∈◌, Place}
use Rattle.lists.proofs.Places.{place_in_lem, place_some, place_get}
use Rattle.model.specs.Task.{Task, parts}
use Rattle.model.specs.Rows.{GoodTask}
use Rattle.table.specs.declared.Row.{Row}
use Rattle.table.specs.declared.Table.{Table}
use Rattle.table.specs.declared.GoodTable.{GoodTable}
use Rattle.table.specs.Verdicts.{code_of}
use Rattle.table.specs.Faults.{fault_of}
use Rattle.table.specs.Memory.{zero_row, row_of, rows_of, used_rows, tasks_of}
use Rattle.table.proofs.GoodTasks.{tasks-good, rows_same}
use Rattle.table.proofs.EachGood.{each-good}

-- a table in memory without a fault: it has as many rows and times as its type says
pub record Sound (t : Table) : Type 0 where
  pub rows : length t.rows ≡ 64
  pub times : length t.times ≡ 1024
  pub fine : code_of (fault_of t) ≡ 0

-- as a table that nothing stands against is by its type
pub sound : (t : GoodTable) → Sound t.table
sound t = record { rows = t.all_rows; times = t.all_times; fine = t.good }

-- row i's task
pub record TaskAt (t : Table) (rows : List Row) (i : ℕ) : Type 0 where
  pub task : Task
  pub place : Place (tasks_of t) i task
  pub row : get_or rows i zero_row ≡ row_of task
  pub good : GoodTask task

-- each of its tasks is a good one
pub tasks-each : {t : Table} → Sound t → (u : Task) → u ∈ tasks_of t → GoodTask u
tasks-each {t} s = each-good t s.rows s.times s.fine

module _ {t : Table} (s : Sound t) {rows : List Row} (used : rows ≡ used_rows t) where
  -- its rows are those of its tasks
  pub its_rows : rows ≡ rows_of (tasks_of t)
  its_rows = used ∙ sym (rows_same t s.rows s.times s.fine)

  -- as many
  pub tasks-count : length (tasks_of t) ≡ length rows
  tasks-count = sym (ap length its_rows ∙ length-map (tasks_of t) row_of)

  -- at most 64
  pub rows_few : length rows ≤ 64
  rows_few = omega (arith, tasks-count, (tasks-good t s.rows s.times s.fine).few)

  module _ (i : ℕ) (h : i < length rows) where
    -- each has its task
    pub task-at : TaskAt t rows i
    task-at =
        let found = place_some (tasks_of t) i (omega (arith, tasks-count)) in
        record {
          task = found.0;
          place = found.1;
          row = ap (λ (rs : List Row). get_or rs i zero_row) its_rows ∙ place_get row_of zero_row (tasks_of t) i found.0 found.1;
          good = tasks-each s found.0 (place_in_lem (tasks_of t) i found.0 found.1);
        }

    -- and is on one of the four cores
    pub core_there : (get_or rows i zero_row).core < 4
    core_there = omega (arith, ap (λ (r : Row). r.core) task-at.row, task-at.good.core.most)

    -- with at most 64 parts
    pub parts_few : (get_or rows i zero_row).parts ≤ 64
    unfolding parts
    parts_few = omega (arith, ap (λ (r : Row). r.parts) task-at.row, task-at.good.count.most)
