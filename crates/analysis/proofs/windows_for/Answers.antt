-- `analysis::windows_for` meets its contract: 10 where there is too little room, then the windows. Assumes nothing.
use borrow.Author.Tests.{lt-ltb, le-ltb}
use Rattle.analysis.proofs.Cored.{parts_are}
use Rattle.analysis.proofs.windows_for.Goals as goal

pub returns-then-room-c : goal.returns-then-room-c
returns-then-room-c c = rw (parts_are c.requires, lt-ltb _ _ c.if-room-c.true)

pub returns : goal.returns
returns c = rw (parts_are c.requires, le-ltb _ _ c.if-room-c.false) c.windows.ensures
