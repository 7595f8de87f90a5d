-- `crate::put_lines` meets its contract: a line for each bound. Assumes nothing.
use Rattle.sheet.specs.Promises.{row_text}
use Rattle.text.proofs.Fitting.{starts, piece_room, piece_turn, pieces_end}
use Rattle.sheet.proofs.put_lines.Goals as goal

pub loop-r-init : goal.loop-r-init
unfolding row_text
loop-r-init c = starts _ _

pub put_bound-requires-clause-room : goal.put_bound-requires-clause-room
put_bound-requires-clause-room c = piece_room _ _ _ c.loop-r.invariant c.loop-r-test.true c.requires.room

pub loop-r-preserved : goal.loop-r-preserved
loop-r-preserved c = piece_turn _ _ _ c.loop-r.invariant c.loop-r-test.true c.put_bound.ensures

pub returns : goal.returns
returns c = pieces_end _ _ _ c.loop-r.invariant c.loop-r-test.false
