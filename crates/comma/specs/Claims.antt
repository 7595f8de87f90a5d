-- Document 02, §1: how text and table files agree, the round trips of text, and how long a good text is, as statements.
use Rattle.std.specs.Prelude.{ℕ, ◌≤◌, ◌≡◌, ◌⊎◌, false, List, [], ◌++◌, length, take, eqb}
use Rattle.lists.specs.Lists.{any, over}
use Rattle.model.specs.Task.{Task}
use Rattle.table.specs.declared.Table.{Table}
use Rattle.table.specs.declared.Verdict.TheVariants.{Good}
use Rattle.table.specs.declared.Written.{Written}
use Rattle.table.specs.Memory.{stored}
use Rattle.fields.specs.Stepping.{go}
use Rattle.files.specs.declared.Loaded.{Loaded}
use Rattle.files.specs.Reading.{read_answer}
use Rattle.files.specs.Writing.{encode_file, Wrote}
use Rattle.files.specs.RoundTrips.{cleared, InMemory, Alike}
use Rattle.table.specs.Written.{answer_on, bytes_left}
use Rattle.table.specs.Faults.{fault_of}
use Rattle.fields.specs.TextFields.{quote}
use Rattle.comma.specs.Reading.{lines_at, read_text}
use Rattle.comma.specs.Writing.{line_end, table_lines, WroteText}

-- a text whose lines are these rows is answered as the table file with the same rows is: the very table, or 4, 5, 6 and a table of zeros
abbrev pub ReadAsFile : Type 0
ReadAsFile = (s : List ℕ) (tasks : List Task) (n : ℕ) → lines_at 64 [] s 0 ≡ go tasks n → read_text s ≡ read_answer (encode_file tasks)

-- what is written, read back, gives the same rows and times
abbrev pub WrittenTextIsRead : Type 0
WrittenTextIsRead = (t : Table) → InMemory t
    → (out : List ℕ) (r : Written) (out' : List ℕ) → WroteText t out r out' → r.verdict ≡ Good
    → read_text (take r.count out') ≡ record { verdict = Good; table = cleared t }

-- an empty text has no rows
abbrev pub EmptyTextHasNoRows : Type 0
EmptyTextHasNoRows = read_text [] ≡ record { verdict = Good; table = stored [] }

-- a text that has no quotes and ends its lines
pub record Plain (s : List ℕ) : Type 0 where
  pub unquoted : any (eqb quote) s ≡ false
  pub ended : (s ≡ []) ⊎ ((front : List ℕ) × (s ≡ front ++ line_end))

-- when such a text is read well and written, it gives its bytes, all of them and no more
abbrev pub ReadTextIsWritten : Type 0
ReadTextIsWritten = (s : List ℕ) → Plain s → (l : Loaded) → l ≡ read_text s → l.verdict ≡ Good
    → (out : List ℕ) (r : Written) (out' : List ℕ) → WroteText l.table out r out' → length s ≤ length out
    → (r ≡ record { verdict = Good; count = length s }) × (out' ≡ over s out)

-- a good text has at most 14,464 bytes: 28 digits, 14 quotes and 7 commas before the times of a row, 8 digits, 2 quotes and a comma
-- for each time, and one byte more for the line's end; 64 rows, 1,024 times
abbrev pub GoodTextIsShort : Type 0
GoodTextIsShort = (s : List ℕ) → (read_text s).verdict ≡ Good → length s ≤ 14464

-- so import works: a good text's table, written as a file into 5,121 bytes or more, is written, and is read as the text is
abbrev pub ImportIsRead : Type 0
ImportIsRead = (s : List ℕ) → (read_text s).verdict ≡ Good → (out : List ℕ) (r : Written) (out' : List ℕ)
    → Wrote (read_text s).table out r out' → 5121 ≤ length out
    → (r.verdict ≡ Good) × (read_answer (take r.count out') ≡ read_text s)

-- and export: a good file's table, written as text into 11,520 bytes or more, is written, and is read as the file is
abbrev pub ExportIsRead : Type 0
ExportIsRead = (s : List ℕ) → (read_answer s).verdict ≡ Good → (out : List ℕ) (r : Written) (out' : List ℕ)
    → WroteText (read_answer s).table out r out' → 11520 ≤ length out
    → (r.verdict ≡ Good) × (read_text (take r.count out') ≡ read_answer s)

-- what stands in the unused rows and times has no say in writing
abbrev pub UnusedHasNoSayInText : Type 0
UnusedHasNoSayInText = (t u : Table) → Alike t u → (out : List ℕ)
    → (answer_on (fault_of t) (table_lines t) (length out) ≡ answer_on (fault_of u) (table_lines u) (length out))
    × (bytes_left (fault_of t) (table_lines t) out ≡ bytes_left (fault_of u) (table_lines u) out)
