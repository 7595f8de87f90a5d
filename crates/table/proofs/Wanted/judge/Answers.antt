-- `table::Wanted::judge` meets its contract. Assumes nothing.
use borrow.Author.Rules.{rules}
use Rattle.table.specs.Fields.{judge}
use Rattle.table.specs.Verdicts.{good, judged}
use Rattle.table.proofs.Wanted.judge.Goals as goal

pub returns-then-n-self : goal.returns-then-n-self
unfolding judge judged good
returns-then-n-self c = search rules

pub returns-then-self-n-2 : goal.returns-then-self-n-2
unfolding judge judged good
returns-then-self-n-2 c = search rules

pub returns : goal.returns
unfolding judge judged good
returns c = search rules
