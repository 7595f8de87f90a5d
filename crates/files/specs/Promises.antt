-- Inner: how the definitions stand behind the functions on the way: what each answers for a step of reading or writing.
use Rattle.std.specs.Prelude.{ℕ, ◌≡◌, List, length, ltb, Result, Ok, Err}
use Rattle.lists.specs.Lists.{pick}
use Rattle.numbers.specs.declared.Read.{Read}
use Rattle.table.specs.Memory.{stored, used_rows}
use Rattle.table.specs.Clash.{clash_of}
use Rattle.table.specs.Verdicts.{good}
use Rattle.table.specs.Written.{bytes_left}
use Rattle.table.specs.declared.Table.{Table}
use Rattle.table.specs.declared.GoodTable.{GoodTable}
use Rattle.table.specs.declared.Verdict.{Verdict}
use Rattle.table.specs.declared.Verdict.TheVariants.{Good, NoRoom}
use Rattle.model.specs.Task.{Task}
use Rattle.fields.specs.Stepping.{Step, stop, go}
use Rattle.files.specs.declared.Loaded.{Loaded}
use Rattle.files.specs.Reading.{loaded}

-- rows that were read, as a table
abbrev pub as_stored : Step (List Task) → Result (Read Table) Verdict
as_stored (stop v) = Err v
as_stored (go tasks next) = Ok (record { value = stored tasks; next = next })

-- what reading gives, as the verdict and the table
abbrev pub loaded_by : Result GoodTable Verdict → Loaded
loaded_by (Ok t) = record { verdict = Good; table = t.table }
loaded_by (Err v) = loaded (stop v)

-- the answer with this table: refused where its rows clash
unfoldable pub answer_with : Table → Loaded
answer_with t = pick (good (clash_of (used_rows t))) (record { verdict = Good; table = t }) (loaded (stop (clash_of (used_rows t))))

-- bytes written where they fit, and how many; else 10 with the bytes needed
pub record Fitted (new out : List ℕ) (r : Result ℕ Verdict) (out' : List ℕ) : Type 0 where
  pub answer : r ≡ pick (ltb (length out) (length new)) (Err (NoRoom (length new))) (Ok (length new))
  pub bytes : out' ≡ bytes_left Good new out
