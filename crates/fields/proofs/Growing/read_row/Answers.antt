-- `fields::Growing::read_row` meets its contract: the row is read, and lies behind those that are there. Assumes nothing.
use Rattle.fields.proofs.RowLaid.{grown}
use Rattle.fields.proofs.Growing.read_row.Goals as goal

pub returns : goal.returns
returns g c = λ done far. grown far c.requires.few c.in_ok-row.ensures
