-- Document 01, "Set A and other samples": Set A as a file, and the report that is printed for it, with the bounds of document 02, §3.
use Rattle.std.specs.Prelude.{ℕ, ◌≡◌, List, [], ◌∷◌, ◌++◌}
use Rattle.lists.specs.Lists.{each}
use Rattle.sheet.specs.Sheet.{sheet_text}

-- 03; 01 00 00 03 05 05 01 01; 02 00 01 02 0A 0A 02 01 02; 03 00 01 01 14 14 02 02 03
abbrev pub file_a : List ℕ
file_a =
    3
    ∷ 1 ∷ 0 ∷ 0 ∷ 3 ∷ 5 ∷ 5 ∷ 1 ∷ 1
    ∷ 2 ∷ 0 ∷ 1 ∷ 2 ∷ 10 ∷ 10 ∷ 2 ∷ 1 ∷ 2
    ∷ 3 ∷ 0 ∷ 1 ∷ 1 ∷ 20 ∷ 20 ∷ 2 ∷ 2 ∷ 3
    ∷ []

-- "core" and a space
abbrev core_a : List ℕ
core_a = 99 ∷ 111 ∷ 114 ∷ 101 ∷ 32 ∷ []

-- core task runnable bound deadline
abbrev header_a : List ℕ
header_a =
    core_a
    ++ (116 ∷ 97 ∷ 115 ∷ 107 ∷ 32
    ∷ 114 ∷ 117 ∷ 110 ∷ 110 ∷ 97 ∷ 98 ∷ 108 ∷ 101 ∷ 32
    ∷ 98 ∷ 111 ∷ 117 ∷ 110 ∷ 100 ∷ 32
    ∷ 100 ∷ 101 ∷ 97 ∷ 100 ∷ 108 ∷ 105 ∷ 110 ∷ 101 ∷ 10
    ∷ [])

-- 0 1 1 1 5; 0 2 1 4 10; 0 2 2 7 10; 0 3 1 7 20; 0 3 2 10 20
abbrev bound_lines_a : List ℕ
bound_lines_a =
    48 ∷ 32 ∷ 49 ∷ 32 ∷ 49 ∷ 32 ∷ 49 ∷ 32 ∷ 53 ∷ 10
    ∷ 48 ∷ 32 ∷ 50 ∷ 32 ∷ 49 ∷ 32 ∷ 52 ∷ 32 ∷ 49 ∷ 48 ∷ 10
    ∷ 48 ∷ 32 ∷ 50 ∷ 32 ∷ 50 ∷ 32 ∷ 55 ∷ 32 ∷ 49 ∷ 48 ∷ 10
    ∷ 48 ∷ 32 ∷ 51 ∷ 32 ∷ 49 ∷ 32 ∷ 55 ∷ 32 ∷ 50 ∷ 48 ∷ 10
    ∷ 48 ∷ 32 ∷ 51 ∷ 32 ∷ 50 ∷ 32 ∷ 49 ∷ 48 ∷ 32 ∷ 50 ∷ 48 ∷ 10
    ∷ []

-- core D code 0 number 0, with the digit D
abbrev verdict_a : ℕ → List ℕ
verdict_a d =
    core_a ++ (d ∷ 32 ∷ 99 ∷ 111 ∷ 100 ∷ 101 ∷ 32 ∷ 48 ∷ 32 ∷ 110 ∷ 117 ∷ 109 ∷ 98 ∷ 101 ∷ 114 ∷ 32 ∷ 48 ∷ 10 ∷ [])

-- the digits are 0 to 3
abbrev pub report_a : List ℕ
report_a = header_a ++ (bound_lines_a ++ each verdict_a (48 ∷ 49 ∷ 50 ∷ 51 ∷ []))

-- the printed bytes are these
abbrev pub SetAReport : Type 0
SetAReport = sheet_text file_a ≡ report_a
