-- `chains::delay_along` meets its contract: the table is read, then the list, then the chain is worked out. Assumes nothing.
use borrow.Author.Rules.{rules}
use mathlib.Core.Path.{◌≡◌, sym, ◌∙◌}
use Rattle.std.specs.Prelude.{Ok, Err}
use Rattle.std.proofs.lemmas.Result.{err_from_is_err_and}
use Rattle.files.specs.Reading.{decode, Loads}
use Rattle.chains.specs.declared.About.TheVariants as A
use Rattle.chains.specs.Lists.{list_numbers}
use Rattle.chains.specs.Promises.{as_steps}
use Rattle.chains.proofs.Listing.{list_is}
use Rattle.chains.proofs.Answers.{file-refused, list_refuses, chain-answers}
use Rattle.chains.proofs.delay_along.Goals.{In_ok-table, In_ok-steps}
use Rattle.chains.proofs.delay_along.Goals as goal

-- the table is read
loaded : (c : In_ok-table) → Loads (decode c.args.bytes.now) (Ok c.in_ok-table.table)
loaded c = let good : c.load.result ≡ Ok c.in_ok-table.table = search rules in rw good at c.load.ensures

-- and so is the list
listed : (c : In_ok-steps) → Ok c.in_ok-steps.steps ≡ as_steps (list_numbers c.args.list.now)
listed c = let good : c.read_list.result ≡ Ok c.in_ok-steps.steps = search rules in sym good ∙ c.read_list.ensures

pub returns-in_err-table : goal.returns-in_err-table
returns-in_err-table c =
    let p = err_from_is_err_and c.from_residual.result c.from_residual.ensures.1 in
    let e = c.in_err-table.field-0.0 in
    let of_file : e.about ≡ A.File = search rules in
    let bad : c.load.result ≡ Err e.verdict = search rules in
    rw (p.1, p.2, of_file) (file-refused c.args.bytes.now c.args.list.now e.verdict (rw bad at c.load.ensures))

pub returns-in_err-steps : goal.returns-in_err-steps
returns-in_err-steps c =
    let p = err_from_is_err_and c.from_residual-in_err-steps.result c.from_residual-in_err-steps.ensures.1 in
    let e = c.in_err-steps.field-0.0 in
    let of_list : e.about ≡ A.List = search rules in
    let bad : c.read_list.result ≡ Err e.verdict = search rules in
    rw (p.1, p.2, of_list)
    (list_refuses c.args.bytes.now c.args.list.now _ (loaded (goal.at.returns-in_err-steps c).In_ok-table) e.verdict
    (sym bad ∙ c.read_list.ensures))

pub delay_in-requires : goal.delay_in-requires
delay_in-requires c =
    rw c.as_slice.ensures.value (list_is c.args.list.now _ (listed (goal.at.delay_in-requires c).In_ok-steps))

pub returns : goal.returns
returns c =
    rw c.as_slice.ensures.value at c.delay_in.ensures
    ∙ chain-answers c.args.bytes.now c.args.list.now _ (loaded (goal.at.returns c).In_ok-table) _ (listed (goal.at.returns c).In_ok-steps)
