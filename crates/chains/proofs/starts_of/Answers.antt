-- `chains::starts_of` meets its contract: row by row. Assumes nothing.
use native.Mathlib.Omega.{arith}
use Rattle.model.specs.Task.{parts}
use Rattle.chains.proofs.Rows.{sound, tasks-count, rows_few, task-at, core_there, parts_few}
use Rattle.chains.proofs.Starting.{none_started, one_started, all_started}
use Rattle.chains.proofs.starts_of.Goals as goal

pub loop-i-init : goal.loop-i-init
loop-i-init c = none_started _

pub bounds-used-core : goal.bounds-used-core
bounds-used-core c = core_there (sound c.args.t.now) c.used_rows-row-items.ensures _ c.loop-i-test.true

pub bounds-used-core-in-loop-i : goal.bounds-used-core-in-loop-i
bounds-used-core-in-loop-i c = core_there (sound c.args.t.now) c.used_rows-row-items.ensures _ c.loop-i-test.true

pub bounds-used-core-in-loop-i-2 : goal.bounds-used-core-in-loop-i-2
bounds-used-core-in-loop-i-2 c = core_there (sound c.args.t.now) c.used_rows-row-items.ensures _ c.loop-i-test.true

pub overflow_add-used : goal.overflow_add-used
overflow_add-used c =
    let used = c.used_rows-row-items.ensures in
    omega (
      arith,
      (c.loop-i.invariant.sum _ (core_there (sound c.args.t.now) used _ c.loop-i-test.true)).small,
      rows_few (sound c.args.t.now) used,
      parts_few (sound c.args.t.now) used _ c.loop-i-test.true,
    )

pub loop-i-preserved : goal.loop-i-preserved
unfolding parts
loop-i-preserved c =
    let used = c.used_rows-row-items.ensures in
    let u = task-at (sound c.args.t.now) used _ c.loop-i-test.true in
    rw u.row (one_started _ _ u.task u.place c.loop-i.invariant u.good (omega (arith, rows_few (sound c.args.t.now) used)))

pub returns : goal.returns
returns c =
    all_started c.loop-i.invariant
    (omega (arith, tasks-count (sound c.args.t.now) c.used_rows-row-items.ensures, c.loop-i-test.false))
