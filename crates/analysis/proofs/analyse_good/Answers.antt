-- `analysis::analyse_good` meets its contract: 9, or what the rows of the core say. Assumes nothing.
use Rattle.analysis.proofs.Tabled.{no_core_lem, some_core}
use Rattle.analysis.proofs.analyse_good.Goals as goal

pub returns-then-core-gt3 : goal.returns-then-core-gt3
returns-then-core-gt3 c = no_core_lem _ c.args.core _ c.if-core-gt3.true c.refused.ensures

pub returns : goal.returns
returns c = some_core _ c.args.core _ c.if-core-gt3.false _ c.core_of.ensures.is c.analyse_core.ensures
