-- `cores::sum_of` meets its contract: std's sum of the times is their sum. Assumes nothing.
use Rattle.std.proofs.Common.{◌∙◌, sym, arith}
use Rattle.std.proofs.lemmas.Iterator.{YieldsList-from_slice}
use Rattle.std.proofs.lemmas.Iterator.Consumers.{sum_from_yields_List, fits_from_yields_list}
use Rattle.cores.proofs.Folds.{sum_is}
use Rattle.cores.proofs.sum_of.Goals as goal

pub sum-requires-clause-fits : goal.sum-requires-clause-fits
sum-requires-clause-fits c =
    fits_from_yields_list c.iter.result _ (YieldsList-from_slice c.args.times.now cc) (omega (arith, sum_is c.args.times.now))

pub returns : goal.returns
returns c =
    sum_from_yields_List c.iter.result _ c.sum.ensures.ran (YieldsList-from_slice c.args.times.now cc) ∙ sym (sum_is c.args.times.now)
