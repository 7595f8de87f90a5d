-- Inner: what the functions on the way to a core's answer take, and what they promise each other.
use Rattle.std.specs.Prelude.{ℕ, ◌≤◌, ◌≡◌, Bool, not, List, map, length, eqb, ltb, Option, Some, None, Result, Ok, Err}
use Rattle.std.proofs.Math.Option as M
use Rattle.arrayvec.specs.ArrayVec.{ArrayVec}
use Rattle.lists.specs.Lists.{Place, pick, over, total}
use Rattle.model.specs.Task.{Task, parts}
use Rattle.model.specs.Rows.{GoodCore}
use Rattle.model.specs.Least.{Found, found, value}
use Rattle.model.specs.Bounds.{on_core, window, meets_deadline, highest}
use Rattle.model.specs.Verdict.{AllWindows}
use Rattle.table.specs.declared.Row.{Row}
use Rattle.table.specs.declared.Table.{Table}
use Rattle.table.specs.declared.Verdict.{Verdict}
use Rattle.table.specs.declared.Verdict.TheVariants.{NoRoom, NoWindow, Missed}
use Rattle.table.specs.Memory.{row_of, tasks_of}
use Rattle.bounds.specs.Loads.{searched, first_cost}
use Rattle.bounds.specs.Promises.{bounds_in}
use Rattle.cores.specs.declared.Asked.{Asked}
use Rattle.cores.specs.declared.Core.{Core}
use Rattle.cores.specs.Cores.{asked_of, tasks_in}
use Rattle.cores.specs.Promises.{asked_at, own_first, preemptive_loads, blocking_in, IsCore}
use Rattle.analysis.specs.declared.Analysed.{Analysed}
use Rattle.analysis.specs.Analysis.{needed, core_bounds, core_said, Gives}

-- ---- one row, in numbers

-- its window
unfoldable pub window_in : List Asked → ℕ → Found
window_in asks own = (searched (own_first asks own) (blocking_in asks own) (first_cost (own_first asks own))).found

-- the bounds of its parts, from its window and its times
unfoldable pub bounds_on : List Asked → ℕ → ℕ → List ℕ → List ℕ
bounds_on asks own window times =
    bounds_in (own_first asks own) (preemptive_loads asks)
    (record { cooperative = eqb (asked_at asks own).kind 1; blocking = blocking_in asks own; window = window }) times

-- row `own` of a good core is t, and this is what the searches ask of each row
pub record AtRow (asked : List Asked) (own : ℕ) : Type 0 where
  pub rows : List Task
  pub t : Task
  pub good : GoodCore rows
  pub row : Place rows own t
  pub is : asked ≡ map asked_of rows

-- it has this window, and these are its times
pub record Bounding (asked : List Asked) (own long : ℕ) (times : List ℕ) : Type 0 where
  pub at : AtRow asked own
  pub windowed : window at.rows at.t ≡ Some long
  pub timed : times ≡ at.t.times

-- ---- all rows of a core

-- a row's window, 0 for none
unfoldable pub window_length : List Task → Task → ℕ
window_length rows t = value (window rows t)

-- a row without a window, and one that misses its deadline
unfoldable pub lacks : List Task → Task → Bool
lacks rows t = not (found (window rows t))

unfoldable pub late : List Task → Task → Bool
late rows t = not (meets_deadline rows t)

-- the higher of the row to name so far and another
abbrev pub higher_row : Option Row → Row → Option Row
higher_row None r = Some r
higher_row (Some t) r = pick (ltb t.priority r.priority) (Some r) (Some t)

-- the row to name so far, as the code keeps it
unfoldable pub top_of : M.Option Task → Option Row
top_of M.none = None
top_of (M.some t) = Some (row_of t)

-- each row's window; or the highest row without one is named
abbrev pub WindowsOf : List Task → Result (ArrayVec ℕ) Verdict → Type 0
WindowsOf rows (Ok lengths) = AllWindows rows × (lengths.items ≡ map (window_length rows) rows)
WindowsOf rows (Err v) = (t : Task) × (highest (lacks rows) rows ≡ M.some t) × (v ≡ NoWindow t.id)

-- the same where there is so much room; else 10
abbrev pub WindowsFor : List Task → ℕ → Result (ArrayVec ℕ) Verdict → Type 0
WindowsFor rows room r = pick (ltb room (needed rows)) (r ≡ Err (NoRoom (needed rows))) (WindowsOf rows r)

-- a core whose rows all have a window, and these are they; there is room for every bound
pub record ToBound (c : Core) (windows : List ℕ) (room : ℕ) : Type 0 where
  pub core : IsCore c
  pub windowed : AllWindows (tasks_in c)
  pub lengths : windows ≡ map (window_length (tasks_in c)) (tasks_in c)
  pub enough : total parts (tasks_in c) ≤ room

-- what is said of the highest row that is late
abbrev pub said_late : M.Option Task → Result Unit Verdict
said_late M.none = Ok tt
said_late (M.some t) = Err (Missed t.id)

-- every bound stands in front, and the highest row that misses its deadline is named
pub record BoundedBy (rows : List Task) (room : List ℕ) (r : Result Unit Verdict) (room' : List ℕ) : Type 0 where
  pub left : room' ≡ over (core_bounds rows) room
  pub says : r ≡ said_late (highest (late rows) rows)

-- one core of a table without faults: 9, and then what its rows say
abbrev pub AnalysesGood : Table → ℕ → List ℕ → Analysed → List ℕ → Type 0
AnalysesGood t core room r room' =
    Gives (core_said core (on_core core (tasks_of t)) (length room)) (on_core core (tasks_of t)) room r room'
