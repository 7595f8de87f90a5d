-- What is claimed of the printed text, as statements.
use Rattle.std.specs.Prelude.{ℕ, ◌+◌, ◌^◌, ◌≤◌, ◌<◌, ◌≡◌, List, [], ◌∷◌, length, take, eqb}
use Rattle.lists.specs.Lists.{pick, total, up_to, Place}
use Rattle.numbers.specs.Numbers.{Bytes}
use Rattle.model.specs.Task.{Task, parts}
use Rattle.model.specs.Bounds.{on_core, bound}
use Rattle.table.specs.declared.Verdict.{Verdict}
use Rattle.table.specs.declared.Verdict.TheVariants.{Good}
use Rattle.table.specs.Verdicts.{code_of}
use Rattle.fields.specs.Stepping.{stop, go}
use Rattle.files.specs.Reading.{decode}
use Rattle.analysis.specs.Analysis.{needed, said_of}
use Rattle.table.specs.declared.Written.{Written}
use Rattle.text.specs.Text.{lines_in}
use Rattle.sheet.specs.Sheet.{header, bound_line, core_line, file_line, sheet_text, Prints}

-- header 34, each of at most 1,024 bounds 29, each of four verdict lines 28
abbrev pub TextIsShort : Type 0
TextIsShort = (s : List ℕ) → Bytes s → length s < 2 ^ 64 → length (sheet_text s) ≤ 29842

-- so with that many bytes printing is never refused, and what was written is the text
abbrev pub TextIsPrinted : Type 0
TextIsPrinted = (s : List ℕ) → Bytes s → length s < 2 ^ 64 → (out : List ℕ) (r : Written) (out' : List ℕ) → Prints s out r out'
    → 29842 ≤ length out → (r.verdict ≡ Good) × (take r.count out' ≡ sheet_text s)

-- a file is printed as its first 5,124 bytes are
abbrev pub SheetOfTheFront : Type 0
SheetOfTheFront = (s : List ℕ) → Bytes s → sheet_text (take 5124 s) ≡ sheet_text s

-- how many lines of bounds are printed of a core: one for each bound, none with code 11
unfoldable pub bound_count : List Task → ℕ → ℕ
bound_count tasks core = pick (eqb (code_of (said_of tasks core)) 11) 0 (needed (on_core core tasks))

-- how many lines stand before those of a core: the header, and the bounds and the verdict of each core before it
unfoldable pub lines_before : List Task → ℕ → ℕ
lines_before tasks core = 1 + total (λ c. bound_count tasks c + 1) (up_to core)

-- of a file with these tasks, the line for part r of the core's row i, behind one line for each part before it on the core,
-- has the id, the bound and the deadline of that row (the core is without code 11)
abbrev pub LineOfItsRow : Type 0
LineOfItsRow = (s : List ℕ) (tasks : List Task) (next : ℕ) → decode s ≡ go tasks next
    → (core : ℕ) → core < 4 → (code_of (said_of tasks core) ≡ 11 → ⊥)
    → (i : ℕ) (t : Task) → Place (on_core core tasks) i t → (r : ℕ) → r < parts t
    → Place (lines_in (sheet_text s)) (lines_before tasks core + needed (take i (on_core core tasks)) + r)
    (bound_line core t.id (r + 1) (bound (on_core core tasks) t r) t.deadline)

-- behind a core's bounds stands its verdict
abbrev pub LineOfItsCore : Type 0
LineOfItsCore = (s : List ℕ) (tasks : List Task) (next : ℕ) → decode s ≡ go tasks next → (core : ℕ) → core < 4
    → Place (lines_in (sheet_text s)) (lines_before tasks core + bound_count tasks core) (core_line core (said_of tasks core))

-- the header is the first line, and after the four cores there is none
abbrev pub NoOtherLine : Type 0
NoOtherLine = (s : List ℕ) (tasks : List Task) (next : ℕ) → decode s ≡ go tasks next
    → Place (lines_in (sheet_text s)) 0 header × (length (lines_in (sheet_text s)) ≡ lines_before tasks 4)

-- a file with a reading code prints one line
abbrev pub LineOfARefusal : Type 0
LineOfARefusal = (s : List ℕ) (v : Verdict) → decode s ≡ stop v → lines_in (sheet_text s) ≡ file_line v ∷ []
