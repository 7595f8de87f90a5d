-- `chains::delay_in` meets its contract: the steps are found, the cores worked out, and what counts is summed. Assumes nothing.
use borrow.Author.Rules.{rules}
use mathlib.Core.Path.{◌≡◌}
use mathlib.Core.List.{[]}
use Rattle.std.specs.Prelude.{Ok, Err}
use Rattle.std.proofs.lemmas.Result.{err_from_is_err_and}
use Rattle.table.specs.Memory.{tasks_of}
use Rattle.chains.specs.Chains.{links_at}
use Rattle.chains.specs.declared.About.TheVariants as A
use Rattle.chains.proofs.Rows.{sound}
use Rattle.chains.proofs.Chained.{Chained, not_chained, chained, cores_there, core-refused, can_sum, chain_passes}
use Rattle.chains.proofs.delay_in.Goals.{In_ok-spots}
use Rattle.chains.proofs.delay_in.Goals as goal

-- all steps are found
found : (c : In_ok-spots)
    → Chained c.args.t.now.table (links_at (tasks_of c.args.t.now.table) c.args.steps.now [] 0) c.in_ok-spots.spots.items
found c =
    let all : c.find_steps.result ≡ Ok c.in_ok-spots.spots = search rules in
    chained (sound c.args.t.now) _ c.in_ok-spots.spots (rw all at c.find_steps.ensures)

pub returns-in_err-spots : goal.returns-in_err-spots
returns-in_err-spots c =
    let p = err_from_is_err_and c.from_residual.result c.from_residual.ensures.1 in
    let e = c.in_err-spots.field-0.0 in
    let of_list : e.about ≡ A.List = search rules in
    let unknown : c.find_steps.result ≡ Err e.verdict = search rules in
    rw (p.1, p.2, of_list) (not_chained _ _ e.verdict (rw unknown at c.find_steps.ensures))

pub work_out_all-requires : goal.work_out_all-requires
work_out_all-requires c =
    rw c.as_slice.ensures.value (cores_there (found (goal.at.work_out_all-requires c).In_ok-spots))

pub returns-in_err-work_out_all : goal.returns-in_err-work_out_all
returns-in_err-work_out_all c =
    let p = err_from_is_err_and c.from_residual-in_err-work_out_all.result c.from_residual-in_err-work_out_all.ensures.1 in
    rw (p.1, p.2)
    (core-refused (found (goal.at.returns-in_err-work_out_all c).In_ok-spots)
    (rw (c.in_err-work_out_all.was, c.as_slice.ensures.value) at c.work_out_all.ensures))

pub sum_of-requires : goal.sum_of-requires
sum_of-requires c =
    rw c.as_slice-2.ensures.value
    (can_sum (found (goal.at.sum_of-requires c).In_ok-spots)
    (rw (c.in_ok-work_out_all.was, c.as_slice.ensures.value) at c.work_out_all.ensures))

pub returns : goal.returns
returns c =
    chain_passes (found (goal.at.returns c).In_ok-spots)
    (rw (c.in_ok-work_out_all.was, c.as_slice.ensures.value) at c.work_out_all.ensures)
    c.sum_of.result (rw c.as_slice-2.ensures.value at c.sum_of.ensures)
