-- `table::judge_row` meets its contract: good fields leave room for the times. No time before this one has a fault. Assumes nothing.
use Prim.Native.Nat.{◌-◌, ◌≤◌}
use native.Mathlib.Omega.{arith}
use mathlib.Core.Path.{◌≡◌, sym, ◌∙◌}
use lib.ListN.{length, take, drop_of_length-le}
use lib.Seq.{length-take-le}
use Rattle.std.specs.Prelude.{Ok}
use Rattle.std.proofs.lemmas.Result.{err_from_is_err_and}
use Rattle.table.specs.Verdicts.{good, judged}
use Rattle.table.specs.Fields.{head, fields_of, fault_in}
use Rattle.table.specs.Faults.{row_fault}
use Rattle.table.specs.Promises.{row_fault_at}
use Rattle.table.proofs.Codes.{passed, good-code, refusal_stays, next_decides}
use Rattle.table.proofs.FieldRanges.{times_fault, times_more}
use Rattle.table.proofs.Heads.{head-found}
use Rattle.table.proofs.judge_row.Goals.{In_ok-judge_all}
use Rattle.table.proofs.judge_row.Goals as goal

-- good fields
good_fields : (c : In_ok-judge_all)
    → Ok c.in_ok-judge_all.field-0 ≡ judged (fault_in (head (1024 - length c.args.rest.now)) c.args.i (fields_of c.args.row.now))
good_fields c = rw (c.head.ensures, c.from.ensures) at c.in_ok-judge_all.ensures

-- leave room for the times
enough : (c : In_ok-judge_all) → c.args.row.now.parts ≤ length c.args.rest.now
enough c =
    let a = c.args in
    omega (arith, (head-found _ a.i a.row.now (good-code _ (passed _ (good_fields c)))).room)

-- and then the times decide
by_times : (c : In_ok-judge_all) → let a = c.args in
    row_fault_at a.i a.row.now a.rest.now ≡ times_fault a.i (take a.row.now.parts a.rest.now)
unfolding row_fault
by_times c = next_decides _ _ (good_fields c) ∙ rw (length-take-le _ c.args.rest.now (enough c))

pub returns-in_err-judge_all : goal.returns-in_err-judge_all
unfolding row_fault
returns-in_err-judge_all c =
    let p = err_from_is_err_and c.from_residual.result c.from_residual.ensures.1 in
    rw (p.1, p.2) (refusal_stays _ _ (rw (c.head.ensures, c.from.ensures) at c.in_err-judge_all.ensures))

pub slice_bounds-time-items-end : goal.slice_bounds-time-items-end
slice_bounds-time-items-end c = sym (length-take-le _ _ (enough (goal.at.slice_bounds-time-items-end c).In_ok-judge_all))

pub returns-in_err-judge : goal.returns-in_err-judge
returns-in_err-judge c =
    let p = err_from_is_err_and c.from_residual-in_err-judge.result c.from_residual-in_err-judge.ensures.1 in
    let times = by_times (goal.at.returns-in_err-judge c).In_ok-judge_all in
    rw (p.1, p.2, times, c.loop-time.invariant, times_more c.args.i _ _ c.loop-time-test.true)
    (refusal_stays _ _ c.in_err-judge.ensures)

pub loop-time-preserved : goal.loop-time-preserved
loop-time-preserved c = c.loop-time.invariant ∙ times_more _ _ _ c.loop-time-test.true ∙ next_decides _ _ c.in_ok-judge.ensures

pub returns : goal.returns
unfolding judged good fault_in
returns c =
    let past = drop_of_length-le (take c.args.row.now.parts c.args.rest.now) c.loop-time-test.false in
    rw (by_times (goal.at.returns c).In_ok-judge_all, c.loop-time.invariant, past)
