-- `analysis::analyse_table` meets its contract: the table's own fault, or what its core says. Assumes nothing.
use Rattle.analysis.proofs.Tabled.{faulty, faultless}
use Rattle.analysis.proofs.analyse_table.Goals as goal

pub returns-in-Ok : goal.returns-in-Ok
returns-in-Ok c = let e = c.in-Ok.ensures in faultless _ _ _ e.0 (rw e.1 at c.analyse_good.ensures)

pub returns-in-Err : goal.returns-in-Err
returns-in-Err c = faulty _ _ _ c.in-Err.ensures c.refused.ensures
