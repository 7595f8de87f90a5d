-- `table::judge_row` meets its contract: good fields leave room for the times. No time before this one has a fault. Assumes nothing.
use Rattle.std.specs.Prelude.{◌≡◌, drop}
use Rattle.table.proofs.FieldRanges.{times_fault}
use Rattle.table.proofs.judge_row.Given as goal

abbrev pub invariant-loop-time : goal.invariant-loop-time
invariant-loop-time l = times_fault l.i l.time-items ≡ times_fault l.i (drop l.time-index l.time-items)
