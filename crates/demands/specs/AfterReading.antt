-- Document 01, "The table", in memory: what stands at each place of the table after reading.
use Rattle.std.specs.Prelude.{ℕ, ◌≤◌, ◌<◌, ◌≡◌, List, length}
use Rattle.lists.specs.Lists.{total, Place}
use Rattle.model.specs.Task.{Task, parts, part}
use Rattle.table.specs.declared.Row.{Row}
use Rattle.table.specs.declared.Table.{Table}
use Rattle.table.specs.Verdicts.{code_of}
use Rattle.files.specs.Reading.{read_answer}
use Rattle.demands.specs.Rules.{GoodFile}
use Rattle.demands.specs.Demand3.{place_of}

-- a row with these fields
pub record RowHas (r : Row) (id core kind priority period deadline parts : ℕ) : Type 0 where
  pub its_id : r.id ≡ id
  pub its_core : r.core ≡ core
  pub its_kind : r.kind ≡ kind
  pub its_priority : r.priority ≡ priority
  pub its_period : r.period ≡ period
  pub its_deadline : r.deadline ≡ deadline
  pub its_parts : r.parts ≡ parts

-- 64 rows and 1,024 times; from so many of each on, every place is zero
pub record ZeroFrom (rows times : ℕ) (t : Table) : Type 0 where
  pub count : t.count ≡ rows
  pub places : (length t.rows ≡ 64) × (length t.times ≡ 1024)
  pub row : (i : ℕ) (r : Row) → rows ≤ i → Place t.rows i r → RowHas r 0 0 0 0 0 0 0
  pub time : (i x : ℕ) → times ≤ i → Place t.times i x → x ≡ 0

-- a table that has these tasks and zeros behind them
pub record HasTasks (tasks : List Task) (t : Table) : Type 0 where
  -- each task's row stands at its place
  pub row : (i : ℕ) (u : Task) → Place tasks i u
      → (r : Row) × Place t.rows i r × RowHas r u.id u.core u.kind u.priority u.period u.deadline (parts u)
  -- the times of all rows stand one after another in row order
  pub time : (i : ℕ) (u : Task) → Place tasks i u → (p : ℕ) → p < parts u → Place t.times (place_of tasks i p) (part u p)
  -- unused rows and the rest of the times are all zero
  pub unused : ZeroFrom (length tasks) (total parts tasks) t

-- a refused read gives a table of zeros; a good one the file's tasks
pub record AfterReading : Type 0 where
  pub refused : (s : List ℕ) → (code_of (read_answer s).verdict ≡ 0 → ⊥) → ZeroFrom 0 0 (read_answer s).table
  pub read : (s : List ℕ) (tasks : List Task) → GoodFile s tasks → HasTasks tasks (read_answer s).table
