-- The two ways in which a row's numbers stand one after another: in a file, and in a line of text, a comma behind each but the last.
use Rattle.std.specs.Prelude.{ℕ, true, false, List}
use Rattle.model.specs.Task.{Task}
use Rattle.table.specs.declared.Wanted.{Wanted}
use Rattle.table.specs.Fields.{time}
use Rattle.fields.specs.Stepping.{Step, field_at, times_at, row_by}
use Rattle.fields.specs.TextFields.{text_field, text_times}

pub data Way : Type 0 where
  Seven : Way
  Commas : Way

-- the number wanted at a place
abbrev pub number_by : Way → List ℕ → Wanted → ℕ → Step ℕ
number_by Seven s = field_at s
number_by Commas s = text_field false s

-- the last time of a row
abbrev pub last_by : Way → List ℕ → ℕ → Step ℕ
last_by Seven s = field_at s time
last_by Commas s = text_field true s time

-- the times of a row
abbrev pub times_by : Way → List ℕ → ℕ → ℕ → Step (List ℕ)
times_by Seven s = times_at s
times_by Commas s = text_times s

-- a row, with `used` times before it
abbrev pub row_in : Way → List ℕ → ℕ → ℕ → Step Task
row_in way s used at = row_by (number_by way s) (times_by way s) used at
