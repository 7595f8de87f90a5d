-- `analysis::row_window` meets its contract: the blocking, the rows of the sum, and one search. Assumes nothing.
use Rattle.analysis.specs.Promises.{window_in}
use Rattle.analysis.proofs.Cored.{own_below, window_may}
use Rattle.analysis.proofs.row_window.Goals as goal

pub own_first-loads-requires-clause-there : goal.own_first-loads-requires-clause-there
own_first-loads-requires-clause-there c = (own_below c.requires).0

pub blocking_of-requires : goal.blocking_of-requires
blocking_of-requires c = (own_below c.requires).0

pub invariant_of-rows : goal.invariant_of-rows
invariant_of-rows c = record { summable = rw (c.as_slice.ensures.value, c.own_first-loads.ensures) (window_may c.requires).0 }

pub window-requires-clause-blocking_bound : goal.window-requires-clause-blocking_bound
window-requires-clause-blocking_bound c = rw c.blocking_of.ensures (window_may c.requires).1.1

pub returns : goal.returns
unfolding window_in
returns c = rw (c.window.ensures, c.as_slice.ensures.value, c.own_first-loads.ensures, c.blocking_of.ensures)
