-- `bounds::Loads::work` meets its contract: the sum over the rows fits, and is their work.
use Rattle.std.proofs.Common.{rules}
use Rattle.bounds.proofs.Sides.{work_sum, work-fits}
use Rattle.bounds.proofs.Loads.work.Goals as goal

pub sum-requires-clause-fits : goal.sum-requires-clause-fits
sum-requires-clause-fits c =
    let fits = work-fits c.args.self.rows.now c.args.x c.args.self.summable c.requires in
    search rules

pub returns : goal.returns
returns c = rw work_sum (search rules)
