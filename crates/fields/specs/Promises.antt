-- Inner: how the definitions stand behind the functions that read numbers.
use Rattle.std.specs.Prelude.{ℕ, ◌+◌, ◌≤◌, ◌<◌, min, ◌≡◌, List, [], ◌∷◌, ◌++◌, length, get_or, Result, Ok, Err}
use Rattle.std.proofs.lemmas.List.Edits.{sets}
use Rattle.text.specs.Numerals.{numeral}
use Rattle.model.specs.Task.{Task}
use Rattle.numbers.specs.declared.Read.{Read}
use Rattle.table.specs.declared.Row.{Row}
use Rattle.table.specs.declared.Table.{Table}
use Rattle.table.specs.declared.Verdict.{Verdict}
use Rattle.table.specs.declared.Wanted.{Wanted}
use Rattle.table.specs.Fields.{time, row_from}
use Rattle.table.specs.Memory.{row_of, all_times, stored}
use Rattle.fields.specs.Stepping.{Step, stop, go}

-- a step of reading as the code answers it
abbrev pub as_read : {A : Type 0} → Step A → Result (Read A) Verdict
as_read (stop v) = Err v
as_read (go value next) = Ok (record { value = value; next = next })

-- the fields before a row's times, as a row
abbrev pub as_row : Step (List ℕ) → Result (Read Row) Verdict
as_row (stop v) = Err v
as_row (go fields next) = Ok (record { value = row_from fields; next = next })

-- numbers read into lent room, by the answer: refused, or they fill it
abbrev pub Fills : Step (List ℕ) → Result ℕ Verdict → List ℕ → Type 0
Fills x (Err v) out' = x ≡ stop v
Fills x (Ok next) out' = x ≡ go out' next

-- a row that was read, its times stored behind the `used` ones that are there
pub record RowStored (x : Step Task) (used : ℕ) (times : List ℕ) (row : Row) (next : ℕ) (times' : List ℕ) : Type 0 where
  pub task : Task
  pub read : x ≡ go task next
  pub is : row ≡ row_of task
  pub room : used + row.parts ≤ 1024
  pub stored : times' ≡ sets times used task.times

-- a row read, by the answer: refused, or stored
abbrev pub RowInto : Step Task → ℕ → List ℕ → Result (Read Row) Verdict → List ℕ → Type 0
RowInto x used times (Err v) times' = x ≡ stop v
RowInto x used times (Ok read) times' = RowStored x used times read.value read.next times'

-- a table that holds these tasks so far, and how many times they have
pub record SoFar (done : List Task) (t : Table) (used : ℕ) : Type 0 where
  pub few : length done ≤ 64
  pub is : t ≡ stored done
  pub total : used ≡ length (all_times done)
  pub room : used ≤ 1024

-- a row read behind them, by the answer: refused, or one row more
abbrev pub Grows : Step Task → List Task → Result ℕ Verdict → Table → ℕ → Type 0
Grows x done (Err v) t used = x ≡ stop v
Grows x done (Ok next) t used = (task : Task) × (x ≡ go task next) × SoFar (done ++ (task ∷ [])) t used

-- ---- a field of text

-- a number as the code holds it: at most one above every range
abbrev pub held : Step ℕ → Step ℕ
held (stop v) = stop v
held (go value next) = go (min 16777216 value) next

-- the number that digits make, as the code holds it
abbrev pub held_numeral : List ℕ → ℕ
held_numeral digits = min 16777216 (numeral digits)

-- each number wanted is below that
pub record AllBelow (ws : List Wanted) : Type 0 where
  pub below : (i : ℕ) → i < length ws → (get_or ws i time).high < 16777216
