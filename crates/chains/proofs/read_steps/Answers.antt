-- `chains::read_steps` meets its contract: step by step, then the end. Assumes nothing.
use borrow.Author.Rules.{rules}
use borrow.Author.Tests.{lt-ltb, le-ltb}
use Rattle.std.proofs.lemmas.Result.{err_from_is_err_and}
use Rattle.fields.specs.Stepping.{◌then◌}
use Rattle.chains.specs.Lists.{steps_at}
use Rattle.chains.proofs.Stepping.{step_stops, step-read, all_read, all_held}
use Rattle.chains.proofs.read_steps.Goals as goal

pub returns-in_err-p : goal.returns-in_err-p
returns-in_err-p c =
    let p = err_from_is_err_and c.from_residual.result c.from_residual.ensures.1 in
    rw (p.1, p.2, step_stops c.loop.invariant c.loop-test.true _ c.in_err-p.ensures)

pub loop-preserved : goal.loop-preserved
loop-preserved c =
    rw c.push.ensures.items (step-read c.loop.invariant c.loop-test.true c.read_fields.new.out _ (search rules) c.in_ok-p.ensures)

pub returns-then-p-list : goal.returns-then-p-list
unfolding steps_at ◌then◌
returns-then-p-list c = rw (all_read c.loop.invariant c.loop-test.false, lt-ltb _ _ c.if-p-list.true)

pub returns : goal.returns
unfolding steps_at ◌then◌
returns c = rw (all_read c.loop.invariant c.loop-test.false, le-ltb _ _ c.if-p-list.false, all_held c.loop.invariant)
