-- `chains::work_out` meets its contract: analysis of one core into its room. Assumes nothing.
use borrow.Author.Rules.{rules}
use Rattle.chains.proofs.Rows.{sound}
use Rattle.chains.proofs.Rooms.{works_good, works_bad}
use Rattle.chains.proofs.work_out.Goals as goal

pub returns-in-Good : goal.returns-in-Good
returns-in-Good c =
    works_good (sound c.args.t.now) c.args.core c.requires _ c.told-rooms (search rules) c.analyse_good-answer.ensures c.in-Good.is

pub returns-in_default : goal.returns-in_default
returns-in_default c =
    works_bad (sound c.args.t.now) c.args.core c.requires _ c.told-rooms (search rules) c.analyse_good-answer.ensures c.in_default.not-Good
