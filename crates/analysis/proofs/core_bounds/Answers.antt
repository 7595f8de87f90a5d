-- `analysis::core_bounds` meets its contract: the bounds of the rows seen stand in front, and the highest late row is kept.
use Prim.Native.Nat.{◌+◌, ◌≤◌}
use native.Mathlib.Omega.{arith}
use mathlib.Core.Path.{◌≡◌, ap, ◌∙◌}
use lib.ListN.{length, get_or}
use Rattle.table.specs.Memory.{zero_row}
use Rattle.cores.specs.Cores.{tasks_in, used_asked}
use Rattle.analysis.specs.Promises.{bounds_on}
use Rattle.analysis.proofs.Cored.{Coming, coming, as_many}
use Rattle.analysis.proofs.Tops.{said_none, said_some}
use Rattle.analysis.proofs.BoundsPut.{none_put, lent, lent_fit, some_part, bounds_fit, bounding, room_long, late_next, early_next, all_put}
use Rattle.analysis.proofs.core_bounds.Goals.{In-loop-i, After-split_at, After-bounds_of_row, then-row-room, else-row-room}
use Rattle.analysis.proofs.core_bounds.Goals as goal

-- the row that the code comes to
next : (c : In-loop-i) → Coming (tasks_in c.args.c.now) c.loop-i.i (get_or c.used_rows-row-items.result.now c.loop-i.i zero_row)
next c = coming c.requires.core c.used_rows-row-items.ensures c.loop-i.i c.loop-i-test.true

module _ (c : After-split_at) where
  -- that row
  abbrev row : Coming (tasks_in c.args.c.now) c.loop-i.i (get_or c.used_rows-row-items.result.now c.loop-i.i zero_row)
  row = next (goal.at.After-split_at c).In-loop-i

  -- its times are lent
  own : c.split_at.result.0.now ≡ row.task.times
  own = c.split_at.ensures.front ∙ lent c.requires c.loop-i.invariant row

  -- and there is room for its bounds
  fit : (c.loop-i.a + length c.split_at.result.0.now ≤ length c.args.room.now) × (c.loop-i.a + length c.split_at.result.0.now ≤ 1024)
  fit =
      let all = bounds_fit c.requires c.loop-i.invariant row in
      (omega (arith, ap length own, c.requires.enough), omega (arith, ap length own, c.requires.core.fits))

-- its bounds are those that the row has
put : (c : After-bounds_of_row)
    → c.bounds_of_row.new.room
    ≡ bounds_on (used_asked c.args.c.now) c.loop-i.i (get_or c.args.windows.now c.loop-i.i 0) c.split_at.result.0.now
put c = rw (c.bounds_of_row.ensures, c.used_asked-asked.ensures)

pub loop-i-init : goal.loop-i-init
loop-i-init c = none_put c.requires

pub split_at-requires : goal.split_at-requires
split_at-requires c = lent_fit c.requires c.loop-i.invariant (next (goal.at.split_at-requires c).In-loop-i)

pub overflow_add-e : goal.overflow_add-e
overflow_add-e c = omega (arith, fit (goal.at.overflow_add-e c).After-split_at)

pub offset_bounds-room-a : goal.offset_bounds-room-a
offset_bounds-room-a c = omega (arith, fit (goal.at.offset_bounds-room-a c).After-split_at)

pub slice_bounds-bounds_of_row-end : goal.slice_bounds-bounds_of_row-end
slice_bounds-bounds_of_row-end c = omega (arith, fit (goal.at.slice_bounds-bounds_of_row-end c).After-split_at)

pub bounds_of_row-requires-clause-bounding : goal.bounds_of_row-requires-clause-bounding
bounds_of_row-requires-clause-bounding c =
    let s = (goal.at.bounds_of_row-requires-clause-bounding c).After-split_at in
    rw c.used_asked-asked.ensures (bounding c.requires c.loop-i.invariant (row s) (own s))

pub overflow_sub-e : goal.overflow_sub-e
overflow_sub-e c =
    let s = (goal.at.overflow_sub-e c).After-split_at in
    omega (arith, ap length (own s), some_part c.requires c.loop-i.invariant (row s))

pub offset_bounds-room-e : goal.offset_bounds-room-e
offset_bounds-room-e c = omega (arith, fit (goal.at.offset_bounds-room-e c).After-split_at)

pub bounds-room-e : goal.bounds-room-e
bounds-room-e c =
    let s = (goal.at.bounds-room-e c).After-split_at in
    let long = room_long c.requires c.loop-i.invariant (row s) (own s) (put (goal.at.bounds-room-e c).After-bounds_of_row) in
    omega (arith, fit s, ap length (own s), some_part c.requires c.loop-i.invariant (row s))

pub loop-i-preserved : goal.loop-i-preserved
loop-i-preserved c =
    let s = (goal.at.loop-i-preserved c).After-split_at in
    let left = put (goal.at.loop-i-preserved c).After-bounds_of_row in
    elim c.if-row-room.branch [
      | then-row-room w ↦
          late_next c.requires c.loop-i.invariant (row s) (own s) left (rw w.rest-is c.split_at.ensures.back) w.a-is w.if-row-room.true
          (w.top-is ∙ w.higher_of-top.ensures)
      | else-row-room w ↦
          early_next c.requires c.loop-i.invariant (row s) (own s) left (rw w.rest-is c.split_at.ensures.back) w.a-is w.if-row-room.false
          w.top-is
    ]

pub returns-in-Some : goal.returns-in-Some
returns-in-Some c =
    all_put c.requires c.loop-i.invariant (omega (arith, as_many c.requires.core c.used_rows-row-items.ensures))
    (said_some _ c.loop-i.invariant.named c.in-Some.is)

pub returns-in-None : goal.returns-in-None
returns-in-None c =
    all_put c.requires c.loop-i.invariant (omega (arith, as_many c.requires.core c.used_rows-row-items.ensures))
    (said_none _ c.loop-i.invariant.named c.in-None.is)
