-- One core as one value: its rows as a table of their own, how many parts they have, and what the searches ask of each row.
use Rattle.std.specs.Prelude.{List, map, min, take}
use Rattle.lists.specs.Lists.{pad_to, total, largest}
use Rattle.model.specs.Task.{Task, parts}
use Rattle.table.specs.Memory.{stored, tasks_of}
use Rattle.bounds.specs.Loads.{load}
use Rattle.cores.specs.declared.Asked.{Asked}
use Rattle.cores.specs.declared.Core.{Core}

-- what the searches ask of a row
abbrev pub asked_of : Task → Asked
asked_of t = record { kind = t.kind; priority = t.priority; load = load t; longest = largest t.times }

-- where there is no row
abbrev pub asked_nothing : Asked
asked_nothing = record { kind = 0; priority = 0; load = record { period = 0; cost = 0 }; longest = 0 }

-- a core's rows as one value; zeros behind them
abbrev pub core_of : List Task → Core
core_of rows = record { own = stored rows; parts = total parts rows; asked = pad_to asked_nothing 64 (map asked_of rows) }

-- the rows of a core
abbrev pub tasks_in : Core → List Task
tasks_in c = tasks_of c.own

-- what is asked of the rows that are used
abbrev pub used_asked : Core → List Asked
used_asked c = take (min c.own.count 64) c.asked
