-- `fields::read_times` meets its contract: all times but the last, then the last. Assumes nothing.
use Rattle.std.proofs.lemmas.Result.{err_from_is_err_and}
use Rattle.fields.proofs.Below.{times_below}
use Rattle.fields.proofs.TimesRead.{times_stop, last_stops, times-read}
use Rattle.fields.proofs.read_times.Goals as goal

pub read_fields-requires-clause-in_range : goal.read_fields-requires-clause-in_range
read_fields-requires-clause-in_range g c = times_below _ 64

pub returns-in_err-p : goal.returns-in_err-p
returns-in_err-p g c =
    let p = err_from_is_err_and c.from_residual.result c.from_residual.ensures.1 in
    rw (p.1, p.2) (times_stop _ _ _ _ c.requires.some c.requires.few _ c.in_err-p.ensures)

pub returns-in_err-last : goal.returns-in_err-last
returns-in_err-last g c =
    let p = err_from_is_err_and c.from_residual-in_err-last.result c.from_residual-in_err-last.ensures.1 in
    rw (p.1, p.2) (last_stops _ _ _ _ c.requires.some c.requires.few _ _ c.in_ok-p.ensures _ c.in_err-last.ensures)

pub returns : goal.returns
returns g c = times-read _ _ _ _ c.requires.some c.requires.few _ _ c.in_ok-p.ensures _ _ c.in_ok-last.ensures
