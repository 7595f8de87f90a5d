-- `table::coop_above` meets its contract. Assumes nothing.
use borrow.Author.Rules.{rules}
use Rattle.table.specs.Clash.{coop_above}
use Rattle.table.proofs.coop_above.Goals.{then-a-eq1, else-a-eq1}
use Rattle.table.proofs.coop_above.Goals as goal

pub returns-then-b-eq0 : goal.returns-then-b-eq0
unfolding coop_above
returns-then-b-eq0 c = elim c.if-a-eq1.branch [ then-a-eq1 w ↦ search rules | else-a-eq1 w ↦ search rules ]

pub returns-else-b-eq0 : goal.returns-else-b-eq0
unfolding coop_above
returns-else-b-eq0 c = elim c.if-a-eq1.branch [ then-a-eq1 w ↦ search rules | else-a-eq1 w ↦ search rules ]
