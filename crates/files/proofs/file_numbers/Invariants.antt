-- `files::file_numbers` meets its contract. The invariant: the numbers so far and those of the rows ahead are the whole. Assumes nothing.
use Prim.Native.Nat.{ℕ, ◌≤◌}
use mathlib.Core.Path.{◌≡◌}
use mathlib.Core.List.{List, ◌++◌}
use lib.ListN.{length}
use Rattle.lists.specs.Lists.{each}
use Rattle.model.specs.Task.{Task}
use Rattle.table.specs.declared.Row.{Row}
use Rattle.table.specs.declared.Table.{Table}
use Rattle.table.specs.Memory.{tasks_of}
use Rattle.files.specs.Writing.{row_numbers, file_numbers}
use Rattle.table.proofs.Walk.{Left}
use Rattle.files.proofs.file_numbers.Given as goal

pub record Listing (t : Table) (rows : List Row) (numbers times : List ℕ) (i : ℕ) : Type 0 where
  pub tasks : List Task
  pub left : Left rows times i tasks
  pub short : length (file_numbers (tasks_of t)) ≤ 1473
  pub whole : file_numbers (tasks_of t) ≡ numbers ++ each row_numbers tasks

abbrev pub invariant-loop-row : goal.invariant-loop-row
invariant-loop-row l = Listing l.t.table l.rows l.numbers.items l.rest l.row-index
