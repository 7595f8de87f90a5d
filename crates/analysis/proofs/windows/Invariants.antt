-- `analysis::windows` meets its contract: the windows of the rows seen are kept, and the highest row without one. Assumes nothing.
use Rattle.cores.specs.Cores.{tasks_in}
use Rattle.analysis.proofs.Sought.{Sought}
use Rattle.analysis.proofs.windows.Given as goal

abbrev pub invariant-loop-i : goal.invariant-loop-i
invariant-loop-i l = Sought (tasks_in l.c) l.lengths.items l.top l.i
