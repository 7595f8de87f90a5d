-- `table::Table::check_rows` meets its contract. No row before row i has a fault. Assumes nothing.
use Rattle.std.specs.Prelude.{◌≡◌, ◌-◌, ◌≤◌, length, drop}
use Rattle.table.specs.Faults.{rows_fault}
use Rattle.table.proofs.Table.check_rows.Given as goal

abbrev pub invariant-loop-i : goal.invariant-loop-i
invariant-loop-i l =
    record {
      room : length l.rest ≤ 1024;
      same : rows_fault 0 0 l.row-items l.self.times ≡ rows_fault l.i (1024 - length l.rest) (drop l.i l.row-items) l.rest;
    }
