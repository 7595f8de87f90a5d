-- A second sample beside Set A: all four cores in use, their rows mixed. In every row id, priority, period, deadline and times differ from
-- one another and from those of the other rows, so that no two can be taken for each other; some numbers take two bytes.
use Rattle.std.specs.Prelude.{ℕ, ◌≡◌, List, [], ◌∷◌, ◌++◌}
use Rattle.model.specs.Task.{Task}
use Rattle.table.specs.declared.Verdict.TheVariants as C
use Rattle.fields.specs.Stepping.{stop, go}
use Rattle.files.specs.Reading.{decode}
use Rattle.analysis.specs.Analysis.{Analyses}
use Rattle.sheet.specs.Sheet.{sheet_text}

-- a row: id, core, type, priority, period, deadline, times
abbrev pub row_b : ℕ → ℕ → ℕ → ℕ → ℕ → ℕ → List ℕ → Task
row_b id core kind priority period deadline times =
    record { id = id; core = core; kind = kind; priority = priority; period = period; deadline = deadline; times = times }

-- core 0: a preemptive row above two cooperative ones of two parts each
abbrev pub task21 : Task
task21 = row_b 21 0 0 90 13 9 (2 ∷ [])

-- core 0: the upper cooperative row
abbrev pub task22 : Task
task22 = row_b 22 0 1 40 34 32 (3 ∷ 4 ∷ [])

-- core 0: the lower cooperative row
abbrev pub task23 : Task
task23 = row_b 23 0 1 20 60 55 (8 ∷ 18 ∷ [])

-- core 1: a preemptive row above another
abbrev pub task31 : Task
task31 = row_b 31 1 0 70 10 11 (6 ∷ [])

-- core 1: the lower one, which misses its deadline
abbrev pub task33 : Task
task33 = row_b 33 1 0 50 17 14 (5 ∷ [])

-- core 2: a preemptive row with more work than its period
abbrev pub task41 : Task
task41 = row_b 41 2 0 35 12 100 (15 ∷ [])

-- core 2: a higher one that has a window
abbrev pub task43 : Task
task43 = row_b 43 2 0 77 25 24 (1 ∷ [])

-- core 3: one cooperative row of two long parts
abbrev pub task300 : Task
task300 = row_b 300 3 1 200 1000 500 (130 ∷ 129 ∷ [])

-- in file order
abbrev pub tasks_b : List Task
tasks_b = task300 ∷ task41 ∷ task21 ∷ task31 ∷ task22 ∷ task33 ∷ task43 ∷ task23 ∷ []

-- the file: 8 rows, then row by row; 300 is 172 2, 200 is 200 1, 1000 is 232 7, 500 is 244 3, 130 is 130 1, 129 is 129 1
abbrev pub bytes_b : List ℕ
bytes_b =
    8
    ∷ 172 ∷ 2 ∷ 3 ∷ 1 ∷ 200 ∷ 1 ∷ 232 ∷ 7 ∷ 244 ∷ 3 ∷ 2 ∷ 130 ∷ 1 ∷ 129 ∷ 1
    ∷ 41 ∷ 2 ∷ 0 ∷ 35 ∷ 12 ∷ 100 ∷ 1 ∷ 15
    ∷ 21 ∷ 0 ∷ 0 ∷ 90 ∷ 13 ∷ 9 ∷ 1 ∷ 2
    ∷ 31 ∷ 1 ∷ 0 ∷ 70 ∷ 10 ∷ 11 ∷ 1 ∷ 6
    ∷ 22 ∷ 0 ∷ 1 ∷ 40 ∷ 34 ∷ 32 ∷ 2 ∷ 3 ∷ 4
    ∷ 33 ∷ 1 ∷ 0 ∷ 50 ∷ 17 ∷ 14 ∷ 1 ∷ 5
    ∷ 43 ∷ 2 ∷ 0 ∷ 77 ∷ 25 ∷ 24 ∷ 1 ∷ 1
    ∷ 23 ∷ 0 ∷ 1 ∷ 20 ∷ 60 ∷ 55 ∷ 2 ∷ 8 ∷ 18
    ∷ []

-- core task runnable bound deadline
abbrev pub header_b : List ℕ
header_b =
    99 ∷ 111 ∷ 114 ∷ 101 ∷ 32
    ∷ 116 ∷ 97 ∷ 115 ∷ 107 ∷ 32
    ∷ 114 ∷ 117 ∷ 110 ∷ 110 ∷ 97 ∷ 98 ∷ 108 ∷ 101 ∷ 32
    ∷ 98 ∷ 111 ∷ 117 ∷ 110 ∷ 100 ∷ 32
    ∷ 100 ∷ 101 ∷ 97 ∷ 100 ∷ 108 ∷ 105 ∷ 110 ∷ 101 ∷ 10
    ∷ []

-- 0 21 1 2 9
abbrev pub line21_part1 : List ℕ
line21_part1 = 48 ∷ 32 ∷ 50 ∷ 49 ∷ 32 ∷ 49 ∷ 32 ∷ 50 ∷ 32 ∷ 57 ∷ 10 ∷ []

-- 0 22 1 24 32
abbrev pub line22_part1 : List ℕ
line22_part1 = 48 ∷ 32 ∷ 50 ∷ 50 ∷ 32 ∷ 49 ∷ 32 ∷ 50 ∷ 52 ∷ 32 ∷ 51 ∷ 50 ∷ 10 ∷ []

-- 0 22 2 30 32
abbrev pub line22_part2 : List ℕ
line22_part2 = 48 ∷ 32 ∷ 50 ∷ 50 ∷ 32 ∷ 50 ∷ 32 ∷ 51 ∷ 48 ∷ 32 ∷ 51 ∷ 50 ∷ 10 ∷ []

-- 0 23 1 19 55
abbrev pub line23_part1 : List ℕ
line23_part1 = 48 ∷ 32 ∷ 50 ∷ 51 ∷ 32 ∷ 49 ∷ 32 ∷ 49 ∷ 57 ∷ 32 ∷ 53 ∷ 53 ∷ 10 ∷ []

-- 0 23 2 39 55
abbrev pub line23_part2 : List ℕ
line23_part2 = 48 ∷ 32 ∷ 50 ∷ 51 ∷ 32 ∷ 50 ∷ 32 ∷ 51 ∷ 57 ∷ 32 ∷ 53 ∷ 53 ∷ 10 ∷ []

-- core 0 code 0 number 0
abbrev pub core_line0 : List ℕ
core_line0 =
    99 ∷ 111 ∷ 114 ∷ 101 ∷ 32
    ∷ 48 ∷ 32
    ∷ 99 ∷ 111 ∷ 100 ∷ 101 ∷ 32
    ∷ 48 ∷ 32
    ∷ 110 ∷ 117 ∷ 109 ∷ 98 ∷ 101 ∷ 114 ∷ 32
    ∷ 48 ∷ 10
    ∷ []

-- 1 31 1 6 11
abbrev pub line31_part1 : List ℕ
line31_part1 = 49 ∷ 32 ∷ 51 ∷ 49 ∷ 32 ∷ 49 ∷ 32 ∷ 54 ∷ 32 ∷ 49 ∷ 49 ∷ 10 ∷ []

-- 1 33 1 17 14
abbrev pub line33_part1 : List ℕ
line33_part1 = 49 ∷ 32 ∷ 51 ∷ 51 ∷ 32 ∷ 49 ∷ 32 ∷ 49 ∷ 55 ∷ 32 ∷ 49 ∷ 52 ∷ 10 ∷ []

-- core 1 code 12 number 33
abbrev pub core_line1 : List ℕ
core_line1 =
    99 ∷ 111 ∷ 114 ∷ 101 ∷ 32
    ∷ 49 ∷ 32
    ∷ 99 ∷ 111 ∷ 100 ∷ 101 ∷ 32
    ∷ 49 ∷ 50 ∷ 32
    ∷ 110 ∷ 117 ∷ 109 ∷ 98 ∷ 101 ∷ 114 ∷ 32
    ∷ 51 ∷ 51 ∷ 10
    ∷ []

-- core 2 code 11 number 41
abbrev pub core_line2 : List ℕ
core_line2 =
    99 ∷ 111 ∷ 114 ∷ 101 ∷ 32
    ∷ 50 ∷ 32
    ∷ 99 ∷ 111 ∷ 100 ∷ 101 ∷ 32
    ∷ 49 ∷ 49 ∷ 32
    ∷ 110 ∷ 117 ∷ 109 ∷ 98 ∷ 101 ∷ 114 ∷ 32
    ∷ 52 ∷ 49 ∷ 10
    ∷ []

-- 3 300 1 130 500
abbrev pub line300_part1 : List ℕ
line300_part1 = 51 ∷ 32 ∷ 51 ∷ 48 ∷ 48 ∷ 32 ∷ 49 ∷ 32 ∷ 49 ∷ 51 ∷ 48 ∷ 32 ∷ 53 ∷ 48 ∷ 48 ∷ 10 ∷ []

-- 3 300 2 259 500
abbrev pub line300_part2 : List ℕ
line300_part2 = 51 ∷ 32 ∷ 51 ∷ 48 ∷ 48 ∷ 32 ∷ 50 ∷ 32 ∷ 50 ∷ 53 ∷ 57 ∷ 32 ∷ 53 ∷ 48 ∷ 48 ∷ 10 ∷ []

-- core 3 code 0 number 0
abbrev pub core_line3 : List ℕ
core_line3 =
    99 ∷ 111 ∷ 114 ∷ 101 ∷ 32
    ∷ 51 ∷ 32
    ∷ 99 ∷ 111 ∷ 100 ∷ 101 ∷ 32
    ∷ 48 ∷ 32
    ∷ 110 ∷ 117 ∷ 109 ∷ 98 ∷ 101 ∷ 114 ∷ 32
    ∷ 48 ∷ 10
    ∷ []

-- file code 3 number 1
abbrev pub refused_line : List ℕ
refused_line =
    102 ∷ 105 ∷ 108 ∷ 101 ∷ 32
    ∷ 99 ∷ 111 ∷ 100 ∷ 101 ∷ 32
    ∷ 51 ∷ 32
    ∷ 110 ∷ 117 ∷ 109 ∷ 98 ∷ 101 ∷ 114 ∷ 32
    ∷ 49 ∷ 10
    ∷ []

-- core 0
abbrev pub text0 : List ℕ
text0 = line21_part1 ++ (line22_part1 ++ (line22_part2 ++ (line23_part1 ++ (line23_part2 ++ core_line0))))

-- core 1
abbrev pub text1 : List ℕ
text1 = line31_part1 ++ (line33_part1 ++ core_line1)

-- core 2
abbrev pub text2 : List ℕ
text2 = core_line2

-- core 3
abbrev pub text3 : List ℕ
text3 = line300_part1 ++ (line300_part2 ++ core_line3)

-- the sheet
abbrev pub report_b : List ℕ
report_b = header_b ++ (text0 ++ (text1 ++ (text2 ++ text3)))

-- what is read, answered, left in the room and printed
pub record SampleB : Type 0 where
  pub reads : decode bytes_b ≡ go tasks_b 74
  -- core 0 passes
  pub core0 : Analyses bytes_b 0 (0 ∷ 0 ∷ 0 ∷ 0 ∷ 0 ∷ 71 ∷ 72 ∷ []) (record { verdict = C.Good; count = 5 })
      (2 ∷ 24 ∷ 30 ∷ 19 ∷ 39 ∷ 71 ∷ 72 ∷ [])
  -- core 1 misses a deadline: every bound is written
  pub core1 : Analyses bytes_b 1 (0 ∷ 0 ∷ 71 ∷ 72 ∷ []) (record { verdict = C.Missed 33; count = 2 }) (6 ∷ 17 ∷ 71 ∷ 72 ∷ [])
  -- core 2 has a row without a window: nothing is written
  pub core2 : Analyses bytes_b 2 (73 ∷ 74 ∷ 71 ∷ 72 ∷ []) (record { verdict = C.NoWindow 41; count = 0 }) (73 ∷ 74 ∷ 71 ∷ 72 ∷ [])
  -- core 3 passes, in just the room that it needs
  pub core3 : Analyses bytes_b 3 (0 ∷ 0 ∷ []) (record { verdict = C.Good; count = 2 }) (130 ∷ 259 ∷ [])
  -- with one element less it is refused
  pub short3 : Analyses bytes_b 3 (73 ∷ []) (record { verdict = C.NoRoom 2; count = 0 }) (73 ∷ [])
  -- there is no core 4
  pub core4 : Analyses bytes_b 4 (73 ∷ []) (record { verdict = C.NoSuchCore 4; count = 0 }) (73 ∷ [])
  -- the sheet, byte for byte
  pub prints : sheet_text bytes_b ≡ report_b
  -- one row, and its id is 0: a refused file
  pub refused : decode (1 ∷ 0 ∷ []) ≡ stop (C.OutOfRange 1)
  pub refused_text : sheet_text (1 ∷ 0 ∷ []) ≡ refused_line
