-- `table::compared_clashes` meets its contract: each test computes its rule. Assumes nothing.
use borrow.Author.Rules.{rules}
use Rattle.table.specs.Rules as R
use Rattle.table.specs.Clash.{breaks}
use Rattle.table.proofs.compared_clashes.Goals as goal

pub returns : goal.returns
unfolding breaks
returns c =
    record {
      twice = c.first_clash.ensures (breaks R.SamePriority) (λ row earlier r k. search rules);
      crossed = λ _. c.first_clash-2.ensures (breaks R.KindsCrossed) (λ row earlier r k. search rules);
    }
