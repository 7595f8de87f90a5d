-- `analysis::bounds_of_row` meets its contract: the blocking, the rows of both sums, and the walk over the jobs. Assumes nothing.
use native.Mathlib.Omega.{arith}
use Rattle.analysis.specs.Promises.{bounds_on}
use Rattle.analysis.proofs.Cored.{own_below, window_may, preemptive_may, bounds_may}
use Rattle.analysis.proofs.bounds_of_row.Goals as goal

pub own_first-loads-requires-clause-there : goal.own_first-loads-requires-clause-there
own_first-loads-requires-clause-there c = (own_below c.requires.bounding.at).0

pub offset_bounds-asked-own : goal.offset_bounds-asked-own
offset_bounds-asked-own c = omega (arith, own_below c.requires.bounding.at)

pub bounds-asked-own : goal.bounds-asked-own
bounds-asked-own c = (own_below c.requires.bounding.at).0

pub blocking_of-requires : goal.blocking_of-requires
blocking_of-requires c = (own_below c.requires.bounding.at).0

pub invariant_of-rows : goal.invariant_of-rows
invariant_of-rows c = record { summable = rw (c.as_slice.ensures.value, c.own_first-loads.ensures) (window_may c.requires.bounding.at).0 }

pub invariant_of-preemptive : goal.invariant_of-preemptive
invariant_of-preemptive c =
    record { summable = rw (c.as_slice-2.ensures.value, c.preemptive_loads-preemptive.ensures) (preemptive_may c.requires.bounding.at) }

pub row_bounds-requires-clause-own_row : goal.row_bounds-requires-clause-own_row
row_bounds-requires-clause-own_row c =
    rw (
      c.as_slice.ensures.value,
      c.own_first-loads.ensures,
      c.as_slice-2.ensures.value,
      c.preemptive_loads-preemptive.ensures,
      c.blocking_of.ensures,
    ) (bounds_may c.requires.bounding)

pub returns : goal.returns
unfolding bounds_on
returns c =
    rw (
      c.row_bounds.ensures,
      c.as_slice.ensures.value,
      c.own_first-loads.ensures,
      c.as_slice-2.ensures.value,
      c.preemptive_loads-preemptive.ensures,
      c.blocking_of.ensures,
    )
