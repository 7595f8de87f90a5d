-- `chains::starts_of` meets its contract: row by row. Assumes nothing.
use Rattle.table.specs.Memory.{tasks_of}
use Rattle.chains.proofs.Starting.{Starting}
use Rattle.chains.proofs.starts_of.Given as goal

abbrev pub invariant-loop-i : goal.invariant-loop-i
invariant-loop-i l = Starting (tasks_of l.t.table) l.starts l.used l.i
