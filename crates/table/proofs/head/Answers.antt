-- `table::head` meets its contract. Assumes nothing.
use borrow.Author.Rules.{rules}
use Rattle.table.specs.Fields.{head}
use Rattle.table.proofs.head.Goals as goal

pub returns : goal.returns
unfolding head
returns c = search rules
