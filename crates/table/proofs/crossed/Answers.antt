-- `table::crossed` meets its contract. Assumes nothing.
use borrow.Author.Rules.{rules}
use Rattle.table.specs.Clash.{breaks}
use Rattle.table.proofs.crossed.Goals as goal

pub returns-then-coop_above : goal.returns-then-coop_above
unfolding breaks
returns-then-coop_above c = search rules

pub returns-else-coop_above : goal.returns-else-coop_above
unfolding breaks
returns-else-coop_above c = search rules

pub returns-else-earlier-row : goal.returns-else-earlier-row
unfolding breaks
returns-else-earlier-row c = search rules
