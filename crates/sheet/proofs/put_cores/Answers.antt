-- `crate::put_cores` meets its contract: the header, then core by core. Assumes nothing.
use borrow.Author.Rules.{rules}
use mathlib.Core.Path.{refl}
use Rattle.text.specs.Text.{joined}
use Rattle.sheet.specs.Sheet.{header, good_text}
use Rattle.text.proofs.Fitting.{starts, room, turn, piece_room, piece_turn, pieces_end}
use Rattle.sheet.proofs.put_cores.Goals as goal

pub put_word-requires : goal.put_word-requires
unfolding header joined good_text
put_word-requires c = (search rules, room (starts _ _) header _ refl c.requires)

pub loop-core-init : goal.loop-core-init
unfolding header joined good_text
loop-core-init c = turn (starts _ _) header _ refl c.put_word.ensures

pub put_analysed-requires-clause-room : goal.put_analysed-requires-clause-room
put_analysed-requires-clause-room c = piece_room _ _ _ c.loop-core.invariant c.loop-core-test.true c.requires

pub loop-core-preserved : goal.loop-core-preserved
loop-core-preserved c = piece_turn _ _ _ c.loop-core.invariant c.loop-core-test.true c.put_analysed.ensures

pub returns : goal.returns
returns c = pieces_end _ _ _ c.loop-core.invariant c.loop-core-test.false
