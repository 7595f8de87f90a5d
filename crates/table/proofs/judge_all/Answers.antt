-- `table::judge_all` meets its contract. No number before this one has a fault. Assumes nothing.
use mathlib.Core.Path.{◌∙◌}
use Rattle.std.proofs.lemmas.Slice.Zip.{Zip-more, either_empty_from_Zip}
use Rattle.std.proofs.lemmas.Result.{err_from_is_err_and}
use Rattle.table.specs.Fields.{fault_in}
use Rattle.table.specs.Verdicts.{good, judged}
use Rattle.table.proofs.FieldRanges.{fault_none}
use Rattle.table.proofs.Codes.{refusal_stays, next_decides}
use Rattle.table.proofs.judge_all.Goals as goal

pub loop-n-preserved : goal.loop-n-preserved
unfolding fault_in
loop-n-preserved c =
    let m = Zip-more c.loop-n.n-iterator c.next.new.self _ _ c.in-Some.is c.next.ensures.steps in
    c.loop-n.invariant ∙ rw (m.0, m.1) (next_decides _ _ c.in_ok-judge.ensures)

pub returns-in_err-judge : goal.returns-in_err-judge
unfolding fault_in
returns-in_err-judge c =
    let p = err_from_is_err_and c.from_residual.result c.from_residual.ensures.1 in
    let m = Zip-more c.loop-n.n-iterator c.next.new.self _ _ c.in-Some.is c.next.ensures.steps in
    rw (p.1, p.2, c.loop-n.invariant, m.0, m.1) (refusal_stays _ _ c.in_err-judge.ensures)

pub returns : goal.returns
unfolding judged good
returns c =
    let none = either_empty_from_Zip c.loop-n.n-iterator c.next.new.self _ c.in-None.is c.next.ensures.steps in
    rw (c.loop-n.invariant ∙ fault_none _ c.args.carried _ none)
