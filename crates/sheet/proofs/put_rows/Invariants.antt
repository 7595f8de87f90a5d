-- `crate::put_rows` meets its contract: row by row, each with its own bounds. Assumes nothing.
use Prim.Native.Nat.{ℕ, ◌≤◌}
use mathlib.Core.List.{List}
use lib.ListN.{length, drop}
use Rattle.table.specs.declared.Row.{Row}
use Rattle.table.specs.Memory.{parts_in, used_rows}
use Rattle.sheet.specs.Promises.{rows_text}
use Rattle.text.proofs.Fitting.{Putting}
use Rattle.sheet.proofs.put_rows.Given as goal

-- the rows that are left, with their bounds and those behind
pub record Rows (core : ℕ) (whole before written : List ℕ) (rows : List Row) (bounds : List ℕ) : Type 0 where
  pub enough : parts_in rows ≤ length bounds
  pub most : length bounds ≤ 1024
  pub putting : Putting whole before written (rows_text core rows bounds)

abbrev pub invariant-loop-row : goal.invariant-loop-row
invariant-loop-row l =
    Rows l.core (rows_text l.core (used_rows l.own) l.bounds) l.initial.paper l.paper (drop l.row-index l.row-items) l.rest
