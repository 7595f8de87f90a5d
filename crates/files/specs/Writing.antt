-- Document 01, "The file" and "Codes and what they leave": what a table is written as, and what writing answers and leaves.
use Rattle.std.specs.Prelude.{ℕ, List, ◌∷◌, ◌++◌, length}
use Rattle.lists.specs.Lists.{each}
use Rattle.numbers.specs.Numbers.{encode_all}
use Rattle.model.specs.Task.{Task}
use Rattle.table.specs.declared.Table.{Table}
use Rattle.table.specs.declared.Verdict.{Verdict}
use Rattle.table.specs.Fields.{fields_of}
use Rattle.table.specs.Memory.{row_of, tasks_of}
use Rattle.table.specs.declared.Written.{Written}
use Rattle.table.specs.Faults.{fault_of}
use Rattle.table.specs.Written.{verdict_on, answer_on, bytes_left, Writes}

-- the numbers of a row: its fields, then its times
unfoldable pub row_numbers : Task → List ℕ
row_numbers t = fields_of (row_of t) ++ t.times

-- the numbers of a file: the row count, then those of each row
unfoldable pub file_numbers : List Task → List ℕ
file_numbers ts = length ts ∷ each row_numbers ts

unfoldable pub encode_file : List Task → List ℕ
encode_file ts = encode_all (file_numbers ts)

-- the bytes of a table in memory
unfoldable pub file_of : Table → List ℕ
file_of t = encode_file (tasks_of t)

-- what writing a table answers and leaves: its own faults stand against it
abbrev pub write_verdict : Table → ℕ → Verdict
write_verdict t room = verdict_on (fault_of t) (file_of t) room

abbrev pub write_answer : Table → ℕ → Written
write_answer t room = answer_on (fault_of t) (file_of t) room

abbrev pub bytes_after : Table → List ℕ → List ℕ
bytes_after t out = bytes_left (fault_of t) (file_of t) out

abbrev pub Wrote : Table → List ℕ → Written → List ℕ → Type 0
Wrote t out r out' = Writes (fault_of t) (file_of t) out r out'
