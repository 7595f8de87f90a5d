-- Document 01, "The file" and "Codes and what they leave": reading goes number by number, and the first fault met is given.
use Rattle.std.specs.Prelude.{ℕ, zero, suc, ◌≡◌, List, [], ◌∷◌, ◌++◌, length, ltb, Result, Ok, Err}
use Rattle.lists.specs.Lists.{pick}
use Rattle.model.specs.Task.{Task}
use Rattle.table.specs.declared.GoodTable.{GoodTable}
use Rattle.table.specs.declared.Verdict.{Verdict}
use Rattle.table.specs.declared.Verdict.TheVariants.{Good, Trailing}
use Rattle.table.specs.Fields.{field}
use Rattle.fields.specs.Stepping.{Step, stop, go, ◌then◌, unless, field_at, times_at, row_by}
use Rattle.table.specs.Memory.{all_times, stored, rows_of}
use Rattle.table.specs.Clash.{clash_of}
use Rattle.files.specs.declared.Loaded.{Loaded}

-- a row of the file, with `used` times before it
unfoldable pub row_at : ℕ → List ℕ → ℕ → Step Task
row_at used s at = row_by (field_at s) (times_at s) used at

-- k more rows, behind those that are done
unfoldable pub rows_at : ℕ → List Task → List ℕ → ℕ → Step (List Task)
rows_at zero done s at = go done at
rows_at (suc k) done s at = row_at (length (all_times done)) s at then λ task at. rows_at k (done ++ (task ∷ [])) s at

-- then 8, then 4, 5 and 6 over the whole table
unfoldable pub end_at : List ℕ → List Task → ℕ → Step (List Task)
end_at s tasks at = pick (ltb at (length s)) (stop (Trailing at)) (unless (clash_of (rows_of tasks)) tasks at)

-- the file: row count (0 to 64), then the rows, then the end
unfoldable pub decode : List ℕ → Step (List Task)
decode s = field_at s (field 0 64) 0 then λ count at. rows_at count [] s at then λ tasks at. end_at s tasks at

-- what reading answers: a refused read gives a table of zeros
abbrev pub loaded : Step (List Task) → Loaded
loaded (stop v) = record { verdict = v; table = stored [] }
loaded (go tasks next) = record { verdict = Good; table = stored tasks }

unfoldable pub read_answer : List ℕ → Loaded
read_answer s = loaded (decode s)

-- what reading gives, by what the definition says: refused, or the table of the tasks
abbrev pub Loads : Step (List Task) → Result GoodTable Verdict → Type 0
Loads (stop v) r = r ≡ Err v
Loads (go tasks next) r = (t : GoodTable) × (r ≡ Ok t) × (t.table ≡ stored tasks)
