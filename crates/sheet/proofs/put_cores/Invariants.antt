-- `crate::put_cores` meets its contract: the header, then core by core. Assumes nothing.
use lib.ListN.{drop}
use Rattle.table.specs.Memory.{tasks_of}
use Rattle.lists.specs.Lists.{each, up_to}
use Rattle.sheet.specs.Sheet.{core_text, good_text}
use Rattle.text.proofs.Fitting.{Putting}
use Rattle.sheet.proofs.put_cores.Given as goal

abbrev pub invariant-loop-core : goal.invariant-loop-core
invariant-loop-core l =
    Putting (good_text (tasks_of l.t.table)) l.fn.paper l.paper (each (core_text (tasks_of l.t.table)) (drop l.core (up_to 4)))
