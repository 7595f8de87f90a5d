-- `analysis::analyse` meets its contract: the reading codes, then what the core of the table says. Assumes nothing.
use Rattle.analysis.proofs.Tabled.{unread, as_table}
use Rattle.analysis.proofs.analyse.Goals as goal

pub returns-in-Ok : goal.returns-in-Ok
returns-in-Ok c = as_table _ _ _ _ c.in-Ok.ensures c.analyse_good.ensures

pub returns-in-Err : goal.returns-in-Err
returns-in-Err c = unread _ _ _ c.in-Err.ensures c.refused.ensures
