-- `bounds::Loads::search` meets its contract: x is reached from below in n rounds.
use mathlib.Core.Path.{◌≡◌, refl}
use native.Mathlib.Omega.{arith}
use Rattle.bounds.specs.Loads.{side, searched}
use Rattle.model.proofs.Climb.{under-start, under-step, under-found, under_past}
use Rattle.model.proofs.Rounds.{counted_start, counted_past, counted_repeat, counted_more}
use Rattle.bounds.proofs.Sides.{work_sum, work-fits, side_mono}
use Rattle.bounds.proofs.Loads.search.Goals as goal

pub loop-x-init : goal.loop-x-init
loop-x-init c = record { under = under-start _ _ c.requires.from_bound; counted = counted_start _ _ _ }

pub overflow_add-y : goal.overflow_add-y
overflow_add-y c =
    let rows = c.args.self.rows.now in
    omega (arith, c.work.ensures, work_sum rows c.loop-x.x, work-fits rows c.loop-x.x c.args.self.summable (omega arith))

pub returns-then-y-x : goal.returns-then-y-x
unfolding searched
returns-then-y-x c =
    let i = c.loop-x.invariant in
    let q : c.loop-x.x ≡ side c.args.self.rows.now c.args.base c.loop-x.x = omega (arith, c.work.ensures) in
    let f = under-found _ _ 16777215 _ i.under q (omega arith) in
    let r = counted_repeat _ 16777215 _ _ _ i.counted (omega arith) q in
    cc

pub loop-x-preserved : goal.loop-x-preserved
loop-x-preserved c =
    let i = c.loop-x.invariant in
    rw c.work.ensures
    record {
      under = under-step _ _ (side_mono _ _) _ i.under;
      counted = counted_more _ 16777215 _ _ _ i.counted (omega arith) _ refl (omega (arith, i.under.rises, c.work.ensures));
    }

pub returns : goal.returns
unfolding searched
returns c =
    let i = c.loop-x.invariant in
    let f = under_past _ _ 16777215 _ i.under (omega arith) in
    let r = counted_past _ 16777215 _ _ _ i.counted (omega arith) in
    cc
