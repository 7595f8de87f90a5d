-- `chains::read_list` meets its contract: the count, then the steps. Assumes nothing.
use mathlib.Core.Path.{◌∙◌}
use Rattle.std.proofs.lemmas.Result.{err_from_is_err_and}
use Rattle.fields.specs.Stepping.{◌then◌}
use Rattle.fields.proofs.Steps.{got_read, refused-read}
use Rattle.fields.proofs.Taken.{field-read}
use Rattle.chains.specs.Lists.{step_count, list_numbers}
use Rattle.chains.proofs.read_list.Goals as goal

pub returns-in_err-count : goal.returns-in_err-count
unfolding list_numbers ◌then◌
returns-in_err-count c =
    let p = err_from_is_err_and c.from_residual.result c.from_residual.ensures.1 in
    rw (p.1, p.2, refused-read _ _ c.in_err-count.ensures)

pub read_steps-requires : goal.read_steps-requires
read_steps-requires c = (field-read c.args.list.now step_count 0 _ _ (got_read _ _ c.in_ok-count.ensures)).fine.most

pub returns : goal.returns
unfolding list_numbers ◌then◌
returns c = c.read_steps.ensures ∙ rw (got_read _ _ c.in_ok-count.ensures)
