-- `fields::read_row` meets its contract: its fields, then its times into their part of the room. Assumes nothing.
use Rattle.std.proofs.lemmas.Result.{err_from_is_err_and}
use Rattle.fields.proofs.RowLaid.{times_refused, row-stored}
use Rattle.fields.proofs.read_row.Goals as goal

pub returns-in_err-next : goal.returns-in_err-next
returns-in_err-next g c =
    let a = c.args in
    let p = err_from_is_err_and c.from_residual-in_err-next.result c.from_residual-in_err-next.ensures.1 in
    rw (p.1, p.2)
    (times_refused g.W.Way.way a.bytes.now a.used a.at _ _ c.in_ok-row.ensures a.times.now c.requires.room _ c.in_err-next.ensures)

pub returns : goal.returns
returns g c =
    let a = c.args in
    row-stored g.W.Way.way a.bytes.now a.used a.at _ _ c.in_ok-row.ensures a.times.now c.requires.room _ _ c.in_ok-next.ensures
