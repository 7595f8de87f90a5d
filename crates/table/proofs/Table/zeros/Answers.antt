-- `table::Table::zeros` meets its contract. Assumes nothing.
use Rattle.lists.specs.Lists.{each}
use Rattle.table.proofs.Table.zeros.Goals as goal

pub returns : goal.returns
returns c = unfold each in rw c.from-row.ensures
