-- Document 02, §1: what a table is written as; writing never quotes and always ends the line, and refuses as the file writer does.
use Rattle.std.specs.Prelude.{ℕ, List, [], ◌∷◌, map}
use Rattle.lists.specs.Lists.{each}
use Rattle.text.specs.Text.{line_feed, decimal, joined}
use Rattle.model.specs.Task.{Task}
use Rattle.table.specs.declared.Table.{Table}
use Rattle.table.specs.declared.Written.{Written}
use Rattle.table.specs.Memory.{tasks_of}
use Rattle.table.specs.Faults.{fault_of}
use Rattle.table.specs.Written.{Writes}
use Rattle.files.specs.Writing.{row_numbers}
use Rattle.fields.specs.TextFields.{comma, carriage_return}

-- CR LF
abbrev pub line_end : List ℕ
line_end = carriage_return ∷ line_feed ∷ []

-- the line of a row: its fields and times in order, in decimal, a comma between every two
unfoldable pub line_of : Task → List ℕ
line_of t = joined comma line_end (map decimal (row_numbers t))

-- the lines of rows, one after another
unfoldable pub lines_of : List Task → List ℕ
lines_of ts = each line_of ts

-- the text of a table in memory
unfoldable pub table_lines : Table → List ℕ
table_lines t = lines_of (tasks_of t)

-- what writing a table as text answers and leaves: its own faults stand against it, as against writing a file
abbrev pub WroteText : Table → List ℕ → Written → List ℕ → Type 0
WroteText t out r out' = Writes (fault_of t) (table_lines t) out r out'
