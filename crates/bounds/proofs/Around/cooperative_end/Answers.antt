-- `bounds::Around::cooperative_end` meets its contract: the first search gives the tick after the start, the second the end.
use native.Mathlib.Omega.{arith}
use Rattle.bounds.specs.Promises.{end_from_start, end_of_part}
use Rattle.bounds.proofs.Walk.{sums_small, begins}
use Rattle.bounds.proofs.Begun.{StartRange, start_range}
use Rattle.bounds.proofs.Around.cooperative_end.Goals.{After-solution-after}
use Rattle.bounds.proofs.Around.cooperative_end.Goals as goal

-- the start and what the code makes of it are in range
range : (c : After-solution-after) → StartRange c.args.self.preemptive.rows.now c.args.time c.solution-after.result
range c = start_range c.requires _ c.solution-after.ensures

pub overflow_add-base : goal.overflow_add-base
overflow_add-base c = omega (arith, sums_small c.requires)

pub overflow_add-from : goal.overflow_add-from
overflow_add-from c = omega (arith, sums_small c.requires)

pub solution-after-requires : goal.solution-after-requires
solution-after-requires c = record { base_bound = omega (arith, sums_small c.requires); from_bound = begins c.requires _ }

pub overflow_sub-earliest : goal.overflow_sub-earliest
overflow_sub-earliest c = (range c).some

pub overflow_add-earliest : goal.overflow_add-earliest
overflow_add-earliest c = omega (arith, range c)

pub work-requires : goal.work-requires
work-requires c = (range (goal.at.work-requires c).After-solution-after).small

pub overflow_sub-rest : goal.overflow_sub-rest
overflow_sub-rest c = omega (arith, c.work.ensures, range (goal.at.overflow_sub-rest c).After-solution-after)

pub solution-end-requires : goal.solution-end-requires
solution-end-requires c =
    let g = range (goal.at.solution-end-requires c).After-solution-after in
    record { base_bound = omega arith; from_bound = rw c.work.ensures g.begins }

pub returns : goal.returns
unfolding end_of_part end_from_start
returns c = rw (c.solution-end.ensures, c.work.ensures, c.solution-after.ensures)
