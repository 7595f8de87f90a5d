-- `analysis::core_bounds` meets its contract: the bounds of the rows seen stand in front, and the highest late row is kept.
use Rattle.cores.specs.Cores.{tasks_in}
use Rattle.analysis.proofs.BoundsPut.{BoundsPut}
use Rattle.analysis.proofs.core_bounds.Given as goal

abbrev pub invariant-loop-i : goal.invariant-loop-i
invariant-loop-i l = BoundsPut (tasks_in l.c) l.initial.room l.room l.top l.rest l.a l.i
