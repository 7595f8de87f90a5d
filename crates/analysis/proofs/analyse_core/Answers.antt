-- `analysis::analyse_core` meets its contract: 10 and 11 with nothing written, then what the bounds say. Assumes nothing.
use mathlib.Core.Path.{sym, ap, ◌∙◌}
use Rattle.table.specs.Verdicts.{said}
use Rattle.cores.specs.Cores.{tasks_in}
use Rattle.analysis.specs.Analysis.{needed}
use Rattle.analysis.proofs.Cored.{parts_are}
use Rattle.analysis.proofs.Said.{late-writes, windowed_said, windows_refused, windows_there}
use Rattle.analysis.proofs.Given.{room_said_lem, gives_none, gives_all}
use Rattle.analysis.proofs.analyse_core.Goals as goal

pub core_bounds-requires : goal.core_bounds-requires
unfolding needed
core_bounds-requires c =
    let w = windows_there (tasks_in c.args.c.now) _ c.in-Ok.ensures in
    record { core = c.requires; windowed = w.1.0; lengths = c.as_slice.ensures.value ∙ w.1.1; enough = w.0 }

pub returns-in-Ok : goal.returns-in-Ok
returns-in-Ok c =
    let w = windows_there (tasks_in c.args.c.now) _ c.in-Ok.ensures in
    let own = c.from.ensures ∙ ap said c.core_bounds.ensures.says in
    gives_all _ _ _ _ (room_said_lem _ _ w.0 ∙ windowed_said _ w.1.0 ∙ sym own) (rw own (late-writes _)) _ _
    (sym (parts_are c.requires)) c.core_bounds.ensures.left

pub returns-in-Err : goal.returns-in-Err
returns-in-Err c =
    let w = windows_refused (tasks_in c.args.c.now) _ c.in-Err.ensures in
    gives_none _ _ _ _ w.0 w.1 c.refused.ensures
