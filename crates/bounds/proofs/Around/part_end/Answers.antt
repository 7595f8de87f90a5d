-- `bounds::Around::part_end` meets its contract: a cooperative part has its own function, and a preemptive one is one search.
use native.Mathlib.Omega.{arith}
use Rattle.bounds.specs.Promises.{end_of_part}
use Rattle.bounds.proofs.Walk.{sums_small, begins}
use Rattle.bounds.proofs.Around.part_end.Goals as goal

pub overflow_add-base : goal.overflow_add-base
overflow_add-base c = omega (arith, sums_small c.requires)

pub overflow_add-from : goal.overflow_add-from
overflow_add-from c = omega (arith, sums_small c.requires)

pub solution-end-requires : goal.solution-end-requires
solution-end-requires c = record { base_bound = omega (arith, sums_small c.requires); from_bound = begins c.requires _ }

pub returns : goal.returns
unfolding end_of_part
returns c = rw (c.solution-end.ensures, c.if-self.false)
