-- `comma::write` meets its contract: a fault, or the lines where they fit. Assumes nothing.
use Rattle.table.proofs.Writes.{nothing_against}
use Rattle.files.proofs.Steps.{writes_refused}
use Rattle.comma.specs.Writing.{table_lines}
use Rattle.comma.proofs.write.Goals as goal

pub returns-in-Ok : goal.returns-in-Ok
unfolding table_lines
returns-in-Ok c =
    rw (← c.in-Ok.ensures.1)
    (nothing_against _ _ _ c.in-Ok.good.good (rw (c.as_slice.ensures, c.lines_of.ensures) at c.write_bytes.ensures))

pub returns-in-Err : goal.returns-in-Err
returns-in-Err c = rw c.from.ensures (writes_refused _ _ _ c.in-Err.ensures)
