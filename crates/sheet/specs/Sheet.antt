-- Document 01, "Set A and other samples": what the report program prints for a file.
use Rattle.std.specs.Prelude.{ℕ, ◌+◌, List, [], ◌∷◌, ◌++◌, map, eqb}
use Rattle.lists.specs.Lists.{pick, each, up_to}
use Rattle.model.specs.Task.{Task, parts}
use Rattle.model.specs.Bounds.{on_core, bound}
use Rattle.table.specs.declared.Verdict.{Verdict}
use Rattle.table.specs.declared.Verdict.TheVariants.{Good}
use Rattle.table.specs.declared.Written.{Written}
use Rattle.table.specs.Verdicts.{code_of, number_of}
use Rattle.table.specs.Written.{Writes}
use Rattle.fields.specs.Stepping.{Step, stop, go}
use Rattle.files.specs.Reading.{decode}
use Rattle.analysis.specs.Analysis.{said_of}
use Rattle.text.specs.Text.{decimal, line}

-- "core"
abbrev pub core_word : List ℕ
core_word = 99 ∷ 111 ∷ 114 ∷ 101 ∷ []

-- "task"
abbrev pub task_word : List ℕ
task_word = 116 ∷ 97 ∷ 115 ∷ 107 ∷ []

-- "runnable"
abbrev pub runnable_word : List ℕ
runnable_word = 114 ∷ 117 ∷ 110 ∷ 110 ∷ 97 ∷ 98 ∷ 108 ∷ 101 ∷ []

-- "bound"
abbrev pub bound_word : List ℕ
bound_word = 98 ∷ 111 ∷ 117 ∷ 110 ∷ 100 ∷ []

-- "deadline"
abbrev pub deadline_word : List ℕ
deadline_word = 100 ∷ 101 ∷ 97 ∷ 100 ∷ 108 ∷ 105 ∷ 110 ∷ 101 ∷ []

-- "code"
abbrev pub code_word : List ℕ
code_word = 99 ∷ 111 ∷ 100 ∷ 101 ∷ []

-- "number"
abbrev pub number_word : List ℕ
number_word = 110 ∷ 117 ∷ 109 ∷ 98 ∷ 101 ∷ 114 ∷ []

-- "file"
abbrev pub file_word : List ℕ
file_word = 102 ∷ 105 ∷ 108 ∷ 101 ∷ []

-- the header
unfoldable pub header : List ℕ
header = line (core_word ∷ task_word ∷ runnable_word ∷ bound_word ∷ deadline_word ∷ [])

-- a line per bound: core, task id, part from 1, bound, deadline
unfoldable pub bound_line : ℕ → ℕ → ℕ → ℕ → ℕ → List ℕ
bound_line core id part bound deadline = line (map decimal (core ∷ id ∷ part ∷ bound ∷ deadline ∷ []))

-- `code C number N`
abbrev pub verdict_words : Verdict → List (List ℕ)
verdict_words v = code_word ∷ decimal (code_of v) ∷ number_word ∷ decimal (number_of v) ∷ []

-- the verdict line of a core
unfoldable pub core_line : ℕ → Verdict → List ℕ
core_line core v = line (core_word ∷ decimal core ∷ verdict_words v)

-- a file with a reading code prints only this
unfoldable pub file_line : Verdict → List ℕ
file_line v = line (file_word ∷ verdict_words v)

-- the line of part r of a row among the rows of its core
abbrev pub part_line : ℕ → List Task → Task → ℕ → List ℕ
part_line core rows t r = bound_line core t.id (r + 1) (bound rows t r) t.deadline

-- a line for each part
unfoldable pub row_lines : ℕ → List Task → Task → List ℕ
row_lines core rows t = each (part_line core rows t) (up_to (parts t))

-- a core whose rows got this verdict: with code 11 only the verdict
unfoldable pub core_text_of : ℕ → List Task → Verdict → List ℕ
core_text_of core rows v = pick (eqb (code_of v) 11) [] (each (row_lines core rows) rows) ++ core_line core v

unfoldable pub core_text : List Task → ℕ → List ℕ
core_text tasks core = core_text_of core (on_core core tasks) (said_of tasks core)

-- the header, then the cores 0 to 3
unfoldable pub good_text : List Task → List ℕ
good_text tasks = header ++ each (core_text tasks) (up_to 4)

unfoldable pub text_of : Step (List Task) → List ℕ
text_of (stop v) = file_line v
text_of (go tasks next) = good_text tasks

-- the printed bytes, from the file's bytes
unfoldable pub sheet_text : List ℕ → List ℕ
sheet_text s = text_of (decode s)

-- what printing a file's sheet into lent bytes gives: nothing stands against it but the room
abbrev pub Prints : List ℕ → List ℕ → Written → List ℕ → Type 0
Prints s out r out' = Writes Good (sheet_text s) out r out'
