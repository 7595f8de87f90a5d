-- The second sample is read, answered and printed as stated. What ends computes; the row without a window is shown to have none.
use native.Mathlib.Omega.{arith}
use mathlib.Core.Path.{◌≡◌, refl}
use mathlib.Core.List.{List, [], ◌∷◌}
use lib.Dec.{lit<}
use Rattle.std.specs.Prelude.{Some, None}
use Rattle.model.specs.Task.{Task}
use Rattle.model.specs.Bounds.{limit, window, core_verdict, no_window}
use Rattle.model.proofs.Least.{least_never}
use Rattle.model.proofs.Rounding.{before_pos, before_covers}
use Rattle.table.specs.declared.Verdict.TheVariants as C
use Rattle.fields.specs.Stepping.{stop, go}
use Rattle.files.specs.Reading.{decode}
use Rattle.analysis.specs.Analysis.{Analyses}
use Rattle.sheet.specs.Sheet.{core_text, good_text, text_of, sheet_text}
use Rattle.demands.specs.SampleB.{task41, task43, tasks_b, bytes_b, text0, text1, text2, text3, report_b, refused_line, SampleB}
use Rattle.sheet.proofs.Opened.{bytes_read, sides, bounds-found, core_judged, answer_given, lines_made, text_made}

-- the bytes are the tasks
reads : decode bytes_b ≡ go tasks_b 74
unfolding bytes_read
reads = refl

-- the refused file
refused : decode (1 ∷ 0 ∷ []) ≡ stop (C.OutOfRange 1)
unfolding bytes_read
refused = refl

-- ---- core 2

-- its rows
abbrev pub rows2 : List Task
rows2 = task41 ∷ task43 ∷ []

-- in a window of n periods of 12, n jobs of 15 ask for more
none41 : window rows2 task41 ≡ None
unfolding sides window
none41 = least_never _ 1 limit (λ z a. omega (arith, before_pos task41 (lit< tt) z a, before_covers task41 (lit< tt) z))

-- the higher row has one
window43 : window rows2 task43 ≡ Some 1
unfolding bounds-found
window43 = refl

-- so the lower one is named
pub judged2 : core_verdict rows2 ≡ no_window task41
unfolding core_judged
judged2 = rw (none41, window43)

-- ---- answers

-- core 0
answer0 : Analyses bytes_b 0 (0 ∷ 0 ∷ 0 ∷ 0 ∷ 0 ∷ 71 ∷ 72 ∷ []) (record { verdict = C.Good; count = 5 })
    (2 ∷ 24 ∷ 30 ∷ 19 ∷ 39 ∷ 71 ∷ 72 ∷ [])
unfolding bounds-found core_judged answer_given
answer0 = rw reads (record { answer = refl; left = refl })

-- core 1
answer1 : Analyses bytes_b 1 (0 ∷ 0 ∷ 71 ∷ 72 ∷ []) (record { verdict = C.Missed 33; count = 2 }) (6 ∷ 17 ∷ 71 ∷ 72 ∷ [])
unfolding bounds-found core_judged answer_given
answer1 = rw reads (record { answer = refl; left = refl })

-- core 2
answer2 : Analyses bytes_b 2 (73 ∷ 74 ∷ 71 ∷ 72 ∷ []) (record { verdict = C.NoWindow 41; count = 0 }) (73 ∷ 74 ∷ 71 ∷ 72 ∷ [])
unfolding answer_given
answer2 = rw (reads, judged2) (record { answer = refl; left = refl })

-- core 3
answer3 : Analyses bytes_b 3 (0 ∷ 0 ∷ []) (record { verdict = C.Good; count = 2 }) (130 ∷ 259 ∷ [])
unfolding bounds-found core_judged answer_given
answer3 = rw reads (record { answer = refl; left = refl })

-- too little room
answer_short : Analyses bytes_b 3 (73 ∷ []) (record { verdict = C.NoRoom 2; count = 0 }) (73 ∷ [])
unfolding answer_given
answer_short = rw reads (record { answer = refl; left = refl })

-- no such core
answer4 : Analyses bytes_b 4 (73 ∷ []) (record { verdict = C.NoSuchCore 4; count = 0 }) (73 ∷ [])
unfolding answer_given
answer4 = rw reads (record { answer = refl; left = refl })

-- ---- the sheet

-- core 0
prints0 : core_text tasks_b 0 ≡ text0
unfolding bounds-found core_judged text_made
prints0 = refl

-- core 1
prints1 : core_text tasks_b 1 ≡ text1
unfolding bounds-found core_judged text_made
prints1 = refl

-- core 2
prints2 : core_text tasks_b 2 ≡ text2
unfolding text_made
prints2 = rw judged2

-- core 3
prints3 : core_text tasks_b 3 ≡ text3
unfolding bounds-found core_judged text_made
prints3 = refl

-- one after another
prints : sheet_text bytes_b ≡ report_b
unfolding lines_made good_text text_of sheet_text
prints = rw (reads, prints0, prints1, prints2, prints3)

-- the line of the refused file
refused-text : sheet_text (1 ∷ 0 ∷ []) ≡ refused_line
unfolding lines_made text_of sheet_text
refused-text = rw refused

-- all of it
pub sample-b : SampleB
sample-b =
    record {
      reads = reads;
      core0 = answer0;
      core1 = answer1;
      core2 = answer2;
      core3 = answer3;
      short3 = answer_short;
      core4 = answer4;
      prints = prints;
      refused = refused;
      refused_text = refused-text;
    }
