-- How long the printed text is at most. Assumes nothing.
use Prim.Native.Nat.{ℕ, zero, suc, ◌+◌, ◌*◌, ◌^◌, ◌≤◌, ◌<◌}
use native.Mathlib.Omega.{arith}
use mathlib.Core.Path.{◌≡◌, refl, ◌∙◌}
use mathlib.Core.List.Memᴰ
use mathlib.Core.List.{List, [], ◌∷◌, ◌++◌}
use lib.ListN.{length, length-append}
use lib.Dec.{eqb, lit<, lit≤}
use Rattle.lists.specs.Lists.{pick, ◌∈◌, keep, each, total, listed, up_to}
use Rattle.lists.proofs.Tests.{by_test}
use Rattle.lists.proofs.Keep.{kept}
use Rattle.lists.proofs.Listed.{listed-length}
use Rattle.lists.proofs.Counted.{counted_below, total_ones, each_short}
use Rattle.model.specs.Task.{Task, parts}
use Rattle.model.specs.Rows.{GoodTask}
use Rattle.model.specs.Bounds.{on_core, bound}
use Rattle.model.specs.Bounds.{CoreVerdict, passes, no_window, misses, core_verdict}
use Rattle.model.specs.Verdict.{Judged}
use Rattle.model.proofs.Most.{bound-most}
use Rattle.model.proofs.Verdict.{verdict_says}
use Rattle.table.specs.declared.Verdict.{Verdict}
use Rattle.table.specs.declared.Verdict.TheVariants.{Good, EndsEarly, Malformed, OutOfRange, IdTwice, PriorityTwice}
use Rattle.table.specs.declared.Verdict.TheVariants.{KindsCrossed, TooManyTimes, Trailing, NoSuchCore, NoRoom, NoWindow, Missed}
use Rattle.table.specs.declared.Verdict.TheVariants.{UnknownStep, BadText}
use Rattle.table.specs.Verdicts.{code_of, number_of}
use Rattle.table.specs.Memory.{all_times}
use Rattle.analysis.specs.Analysis.{needed, named}
use Rattle.analysis.proofs.Given.{said_is}
use Rattle.text.specs.Text.{decimal, joined, line}
use Rattle.sheet.specs.Sheet.{bound_line, core_line, file_line, header, part_line, row_lines, core_text_of, core_text, good_text}
use Rattle.text.proofs.Decimals.{decimal_short}

-- ---- lines

-- a word and a space
line_more : (w v : List ℕ) (ws : List (List ℕ)) → length (line (w ∷ v ∷ ws)) ≡ length w + 1 + length (line (v ∷ ws))
unfolding joined
line_more w v ws = length-append (w ++ (32 ∷ [])) (line (v ∷ ws)) ∙ rw (length-append w (32 ∷ []))

-- the last word
line-last : (w : List ℕ) → length (line (w ∷ [])) ≡ length w + 1
unfolding joined
line-last w = length-append w (10 ∷ [])

-- core 1 digit, id 5, part 2, bound and deadline 8 each, and five bytes behind them
bound_short : (core id part bound deadline : ℕ) → core < 10 → id < 100000 → part < 100 → bound < 100000000 → deadline < 100000000
    → length (bound_line core id part bound deadline) ≤ 29
unfolding bound_line
bound_short core id part bound deadline c i p b d =
    rw (line_more (decimal core), line_more (decimal id), line_more (decimal part), line_more (decimal bound), line-last)
    (omega
    (arith, decimal_short 0 core c, decimal_short 4 id i, decimal_short 1 part p, decimal_short 7 bound b, decimal_short 7 deadline d))

-- `core N code C number M`: a core's verdict carries an id
core_line_short : (core : ℕ) (v : Verdict) → core < 10 → code_of v < 100 → number_of v < 100000 → length (core_line core v) ≤ 28
unfolding core_line
core_line_short core v c k n =
    rw (line_more, line_more (decimal core), line_more, line_more (decimal (code_of v)), line_more, line-last)
    (omega (arith, decimal_short 0 core c, decimal_short 1 (code_of v) k, decimal_short 4 (number_of v) n))

-- `file code C number N`: a reading code carries at most twenty digits
pub file_line_short : (v : Verdict) → code_of v < 100 → number_of v < 10 ^ 20 → length (file_line v) ≤ 41
unfolding file_line
file_line_short v k n =
    rw (line_more, line_more, line_more (decimal (code_of v)), line_more, line-last)
    (omega (arith, decimal_short 1 (code_of v) k, decimal_short 19 (number_of v) n))

-- ---- cores

-- all rows are good
abbrev AllGood : List Task → Type 0
AllGood ts = (u : Task) → u ∈ ts → GoodTask u

-- a row: a line for each part
row_short : (core : ℕ) (rows : List Task) (t : Task) → core ≤ 3 → GoodTask t → length (row_lines core rows t) ≤ parts t * 29
unfolding row_lines
row_short core rows t c g =
    let short : (r : ℕ) → r < parts t → length (part_line core rows t r) ≤ 29
    = λ r h. bound_short core t.id (r + 1) (bound rows t r) t.deadline (omega arith) (omega (arith, g.id.most))
    (omega (arith, g.count.most)) (omega (arith, bound-most rows t r)) (omega (arith, g.deadline.most)) in
    let one : (r : ℕ) → r ∈ up_to (parts t) → length (part_line core rows t r) ≤ 1 * 29
    = λ r m. omega (arith, short r (counted_below (parts t) r m)) in
    let count : total (λ (r : ℕ). 1) (up_to (parts t)) ≡ parts t = total_ones (up_to (parts t)) ∙ listed-length (λ (r : ℕ). r) (parts t) in
    omega (arith, each_short (part_line core rows t) (λ r. 1) 29 (up_to (parts t)) one)

-- rows one after another
lines_short : (core : ℕ) (rows ts : List Task) → core ≤ 3 → AllGood ts → length (each (row_lines core rows) ts) ≤ needed ts * 29
unfolding needed
lines_short core rows ts c g = each_short (row_lines core rows) parts 29 ts (λ t m. row_short core rows t c (g t m))

-- a code has at most two digits
pub code_short : (v : Verdict) → code_of v < 100
code_short Good = lit< tt
code_short (EndsEarly n) = lit< tt
code_short (Malformed n) = lit< tt
code_short (OutOfRange n) = lit< tt
code_short (IdTwice n) = lit< tt
code_short (PriorityTwice n) = lit< tt
code_short (KindsCrossed n) = lit< tt
code_short (TooManyTimes n) = lit< tt
code_short (Trailing n) = lit< tt
code_short (NoSuchCore n) = lit< tt
code_short (NoRoom n) = lit< tt
code_short (NoWindow n) = lit< tt
code_short (Missed n) = lit< tt
code_short (UnknownStep n) = lit< tt
code_short (BadText n) = lit< tt

-- the task that a verdict names is one of the rows
named_small : (rows : List Task) → AllGood rows → (v : CoreVerdict) → Judged rows v → number_of (named v) < 100000
unfolding named
named_small rows g passes j = lit< tt
named_small rows g (no_window t) j = omega (arith, (g t j.row).id.most)
named_small rows g (misses t) j = omega (arith, (g t j.row).id.most)

-- a core: its lines, where there are any, and its verdict
core_short : (tasks : List Task) (core : ℕ) → core ≤ 3 → AllGood tasks
    → length (core_text tasks core) ≤ needed (on_core core tasks) * 29 + 28
unfolding core_text core_text_of on_core
core_short tasks core c g =
    let rows : List Task = keep (λ t. eqb t.core core) tasks in
    let mine : AllGood rows = λ u m. g u (kept _ tasks u m).0 in
    let v = named (core_verdict rows) in
    let small = named_small rows mine (core_verdict rows) (verdict_says rows) in
    let verdict = core_line_short core v (omega arith) (code_short v) small in
    let lines = lines_short core rows rows c mine in
    rw (said_is core rows (needed rows) c (omega arith))
    (by_test (eqb (code_of v) 11) (λ e. rw e (omega arith))
    (λ e. rw (e, length-append (each (row_lines core rows) rows) (core_line core v)) (omega arith)))

-- ---- the whole

-- a row is on one of the four cores
shares : (core n : ℕ) → core ≤ 3 → pick (eqb core 0) n 0 + pick (eqb core 1) n 0 + pick (eqb core 2) n 0 + pick (eqb core 3) n 0 ≤ n
shares zero n h = omega arith
shares (suc zero) n h = omega arith
shares (suc (suc zero)) n h = omega arith
shares (suc (suc (suc zero))) n h = omega arith
shares (suc (suc (suc (suc c)))) n h = absurd (omega arith)

-- how many bounds rows have on a core, row by row
on_core_lem : (core : ℕ) (t : Task) (ts : List Task)
    → needed (on_core core (t ∷ ts)) ≡ pick (eqb t.core core) (length t.times) 0 + needed (on_core core ts)
unfolding needed on_core keep total parts
on_core_lem core t ts = by_test (eqb t.core core) (λ e. rw e) (λ e. rw e (omega arith))

-- the four cores have no more bounds than there are times
four : (ts : List Task) → AllGood ts
    → needed (on_core 0 ts) + needed (on_core 1 ts) + needed (on_core 2 ts) + needed (on_core 3 ts) ≤ length (all_times ts)
unfolding each
four [] g = unfold needed on_core keep total in omega arith
four (t ∷ ts) g =
    let here = shares t.core (length t.times) (g t (Memᴰ.head refl)).core.most in
    rw (length-append t.times (all_times ts))
    (omega (arith, four ts (λ u m. g u (Memᴰ.tail m)), on_core_lem 0 t ts, on_core_lem 1 t ts, on_core_lem 2 t ts, on_core_lem 3 t ts))

-- header 34, at most 1,024 lines of 29, four verdicts of 28
pub good_short : (ts : List Task) → AllGood ts → length (all_times ts) ≤ 1024 → length (good_text ts) ≤ 29842
unfolding good_text each listed header joined
good_short ts g few =
    let c = core_text ts in
    let short : (core : ℕ) → core ≤ 3 → length (c core) ≤ needed (on_core core ts) * 29 + 28 = λ core h. core_short ts core h g in
    rw (length-append header, length-append (c 0), length-append (c 1), length-append (c 2), length-append (c 3))
    (omega (arith, four ts g, short 0 (lit≤ tt), short 1 (lit≤ tt), short 2 (lit≤ tt), short 3 (lit≤ tt)))
