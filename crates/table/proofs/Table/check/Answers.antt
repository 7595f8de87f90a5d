-- `table::Table::check` meets its contract. Assumes nothing.
use borrow.Author.Tests.{lt-ltb, le-ltb}
use mathlib.Core.Path.{sym, ap, ◌∙◌}
use Rattle.std.proofs.lemmas.Result.{err_from_is_err_and}
use Rattle.table.specs.Verdicts.{good, judged}
use Rattle.table.specs.Faults.{fault_of}
use Rattle.table.proofs.Codes.{refusal_stays, next_decides}
use Rattle.table.proofs.Table.check.Goals as goal

pub returns-then-self-gt64 : goal.returns-then-self-gt64
unfolding fault_of judged good
returns-then-self-gt64 c = rw (lt-ltb _ _ c.if-self-gt64.true)

pub returns-in_err-check_rows : goal.returns-in_err-check_rows
unfolding fault_of
returns-in_err-check_rows c =
    let p = err_from_is_err_and c.from_residual.result c.from_residual.ensures.1 in
    rw (p.1, p.2, le-ltb _ _ c.if-self-gt64.false) (refusal_stays _ _ c.in_err-check_rows.ensures)

pub returns : goal.returns
unfolding fault_of
returns c =
    rw (le-ltb _ _ c.if-self-gt64.false) (c.check_clashes.ensures ∙ sym (ap judged (next_decides _ _ c.in_ok-check_rows.ensures)))
