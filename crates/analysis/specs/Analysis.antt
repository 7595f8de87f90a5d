-- Document 01, "Codes and what they leave": one core's answer, and what it leaves in lent room.
use Rattle.std.specs.Prelude.{ℕ, ◌≡◌, Bool, ◌||◌, List, [], length, eqb, ltb}
use Rattle.lists.specs.Lists.{pick, total, each, over}
use Rattle.model.specs.Task.{Task, parts}
use Rattle.model.specs.Bounds.{on_core, row_bounds, CoreVerdict, passes, no_window, misses, core_verdict}
use Rattle.table.specs.declared.Table.{Table}
use Rattle.table.specs.declared.Verdict.{Verdict}
use Rattle.table.specs.declared.Verdict.TheVariants.{Good, NoSuchCore, NoRoom, NoWindow, Missed}
use Rattle.table.specs.Verdicts.{code_of, ◌or_else◌}
use Rattle.table.specs.Memory.{tasks_of}
use Rattle.table.specs.Faults.{fault_of}
use Rattle.fields.specs.Stepping.{Step, stop, go}
use Rattle.files.specs.Reading.{decode}
use Rattle.analysis.specs.declared.Analysed.{Analysed}

-- room needed is the number of parts on the core
unfoldable pub needed : List Task → ℕ
needed rows = total parts rows

-- bounds in row order, parts in order
unfoldable pub core_bounds : List Task → List ℕ
core_bounds rows = each (row_bounds rows) rows

-- codes 11 and 12 name the highest-priority task concerned
unfoldable pub named : CoreVerdict → Verdict
named passes = Good
named (no_window t) = NoWindow t.id
named (misses t) = Missed t.id

-- 10, 11, 12, for the rows of a core and so much room
unfoldable pub room_said : List Task → ℕ → Verdict
room_said rows room = pick (ltb room (needed rows)) (NoRoom (needed rows)) (named (core_verdict rows))

-- 9, and then these
unfoldable pub core_said : ℕ → List Task → ℕ → Verdict
core_said core rows room = pick (ltb 3 core) (NoSuchCore core) (room_said rows room)

-- what is said of a core of these tasks with room for every bound, so that code 10 never occurs
abbrev pub said_of : List Task → ℕ → Verdict
said_of tasks core = core_said core (on_core core tasks) (needed (on_core core tasks))

-- code 12 writes all bounds; every other refusal writes none
unfoldable pub writes : Verdict → Bool
writes v = eqb (code_of v) 0 || eqb (code_of v) 12

-- a refusal that writes none
abbrev pub refusal : Verdict → Analysed
refusal v = record { verdict = v; count = 0 }

-- the answer also says how many bounds were written
unfoldable pub answered : Verdict → List Task → Analysed
answered v rows = pick (writes v) (record { verdict = v; count = needed rows }) (refusal v)

-- elements past the bounds stay
unfoldable pub room_after : Verdict → List Task → List ℕ → List ℕ
room_after v rows room = pick (writes v) (over (core_bounds rows) room) room

-- what an analysis gives, by what is said and the core's rows: the answer and every element of the room
pub record Gives (v : Verdict) (rows : List Task) (room : List ℕ) (r : Analysed) (room' : List ℕ) : Type 0 where
  pub answer : r ≡ answered v rows
  pub left : room' ≡ room_after v rows room

-- a file: after the reading codes, those of the core
unfoldable pub file_said : Step (List Task) → ℕ → ℕ → Verdict
file_said (stop v) core room = v
file_said (go tasks next) core room = core_said core (on_core core tasks) room

unfoldable pub file_rows : Step (List Task) → ℕ → List Task
file_rows (stop v) core = []
file_rows (go tasks next) core = on_core core tasks

abbrev pub Analyses : List ℕ → ℕ → List ℕ → Analysed → List ℕ → Type 0
Analyses s core room r room' = Gives (file_said (decode s) core (length room)) (file_rows (decode s) core) room r room'

-- a table in memory: after its own faults, as in writing, those of the core
unfoldable pub table_said : Table → ℕ → ℕ → Verdict
table_said t core room = fault_of t or_else core_said core (on_core core (tasks_of t)) room

abbrev pub AnalysesTable : Table → ℕ → List ℕ → Analysed → List ℕ → Type 0
AnalysesTable t core room r room' = Gives (table_said t core (length room)) (on_core core (tasks_of t)) room r room'
