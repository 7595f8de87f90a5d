-- `comma::lines_of` meets its contract. The invariant: the lines so far and those of the rows ahead are the whole. Assumes nothing.
use Prim.Native.Nat.{ℕ, ◌≤◌}
use mathlib.Core.Path.{◌≡◌}
use mathlib.Core.List.{List, ◌++◌}
use lib.ListN.{length}
use Rattle.model.specs.Task.{Task}
use Rattle.table.specs.declared.Row.{Row}
use Rattle.table.specs.declared.Table.{Table}
use Rattle.table.specs.Memory.{tasks_of}
use Rattle.table.proofs.Walk.{Left}
use Rattle.comma.specs.Writing.{lines_of}
use Rattle.comma.proofs.lines_of.Given as goal

pub record Listing (t : Table) (rows : List Row) (lines times : List ℕ) (i : ℕ) : Type 0 where
  pub tasks : List Task
  pub left : Left rows times i tasks
  pub short : length (lines_of (tasks_of t)) ≤ 11520
  pub whole : lines_of (tasks_of t) ≡ lines ++ lines_of tasks

abbrev pub invariant-loop-row : goal.invariant-loop-row
invariant-loop-row l = Listing l.t.table l.row-items l.lines l.rest l.row-index
