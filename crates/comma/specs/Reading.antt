-- Document 02, §1: comma-separated lines, one line per row, read in text order; the first fault met is given.
use Rattle.std.specs.Prelude.{ℕ, zero, suc, false, List, [], ◌∷◌, ◌++◌, length, ltb}
use Rattle.lists.specs.Lists.{pick}
use Rattle.model.specs.Task.{Task}
use Rattle.table.specs.declared.Verdict.TheVariants.{OutOfRange}
use Rattle.table.specs.Memory.{all_times, rows_of}
use Rattle.table.specs.Clash.{clash_of}
use Rattle.fields.specs.Stepping.{Step, stop, go, ◌then◌, unless, row_by}
use Rattle.fields.specs.TextFields.{text_field, text_times}
use Rattle.files.specs.declared.Loaded.{Loaded}
use Rattle.files.specs.Reading.{loaded}

-- a line: a row, with `used` times before it
unfoldable pub line_at : ℕ → List ℕ → ℕ → Step Task
line_at used s at = row_by (text_field false s) (text_times s) used at

-- lines up to the text's end, behind the rows that are done; k more may come, and the first byte of one more is 3, whatever it holds
unfoldable pub lines_at : ℕ → List Task → List ℕ → ℕ → Step (List Task)
lines_at zero done s at = pick (ltb at (length s)) (stop (OutOfRange at)) (go done at)
lines_at (suc k) done s at =
    pick (ltb at (length s))
    (line_at (length (all_times done)) s at then λ task at. lines_at k (done ++ (task ∷ [])) s at)
    (go done at)

-- the text: at most 64 lines, then 4, 5 and 6 as before
unfoldable pub decode_text : List ℕ → Step (List Task)
decode_text s = lines_at 64 [] s 0 then λ tasks at. unless (clash_of (rows_of tasks)) tasks at

-- what reading answers: a refused text gives a table of zeros
unfoldable pub read_text : List ℕ → Loaded
read_text s = loaded (decode_text s)
