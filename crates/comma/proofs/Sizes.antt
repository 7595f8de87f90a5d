-- How many bytes a text takes: as it is written, and at most as it is read, with quotes. Assumes nothing.
use Prim.Native.Nat.{ℕ, zero, suc, ◌+◌, ◌*◌, ◌≤◌}
use native.Mathlib.Nat.{suc-mul}
use native.Mathlib.Omega.{arith}
use mathlib.Core.Path.{◌≡◌, refl}
use mathlib.Core.List.{List, [], ◌∷◌}
use lib.ListN.{length, replicate, length-append}
use lib.Dec.{lit<}
use Rattle.lists.specs.Lists.{each, total}
use Rattle.text.specs.Text.{decimal, joined}
use Rattle.text.proofs.Decimals.{decimal_short, decimal_longer}
use Rattle.model.specs.Task.{Task}
use Rattle.table.specs.Fields.{head, time, fields_of}
use Rattle.table.specs.Memory.{row_of, all_times}
use Rattle.table.proofs.Fine.{AllFine}
use Rattle.table.proofs.Heads.{good-head}
use Rattle.table.proofs.GoodTasks.{FineTask, FineTasks, GoodTasks, times_fit}
use Rattle.fields.proofs.Sizes.{fine_most}
use Rattle.fields.specs.TextFields.{comma}
use Rattle.comma.specs.Writing.{line_end, line_of, lines_of}
use Rattle.comma.proofs.LineBytes.{with_comma, in_line, line-parts, lines_none, lines_more}

-- ---- digits, and k bytes more for each number

-- a number's digits and k bytes more
abbrev pub cost : ℕ → ℕ → ℕ
cost k n = length (decimal n) + k

-- which grow with the number
cost_grows : (k n m : ℕ) → n ≤ m → cost k n ≤ cost k m
cost_grows k n m h = omega (arith, decimal_longer n m h)

-- id 5, core 1, type 1, priority 3, period 8, deadline 8, part count 2
head-most : (k used : ℕ) → total (λ w. cost k w.high) (head used) ≤ 28 + 7 * k
unfolding head total
head-most k used =
    let id = decimal_short 4 65535 (lit< tt) in
    let core = decimal_short 0 3 (lit< tt) in
    let kind = decimal_short 0 1 (lit< tt) in
    let priority = decimal_short 2 255 (lit< tt) in
    let span = decimal_short 7 16777215 (lit< tt) in
    let parts = decimal_short 1 64 (lit< tt) in
    omega arith

-- so for a row's fields
pub head-cost : (k used : ℕ) (ns : List ℕ) → AllFine (head used) ns → total (cost k) ns ≤ 28 + 7 * k
head-cost k used ns f = omega (arith, fine_most (cost k) (cost_grows k) (head used) ns f, head-most k used)

-- eight digits for a time
times-most : (k n : ℕ) → total (λ w. cost k w.high) (replicate n time) ≤ n * (8 + k)
unfolding total
times-most k zero = omega arith
times-most k (suc n) = omega (arith, times-most k n, decimal_short 7 16777215 (lit< tt), suc-mul n (8 + k))

-- so for times
pub times-cost : (k n : ℕ) (ts : List ℕ) → AllFine (replicate n time) ts → total (cost k) ts ≤ n * (8 + k)
times-cost k n ts f = omega (arith, fine_most (cost k) (cost_grows k) (replicate n time) ts f, times-most k n)

-- ---- as it is written

-- a number with its comma is its digits and a byte
fields_long : (ns : List ℕ) → length (each with_comma ns) ≡ total (cost 1) ns
unfolding each total
fields_long [] = refl
fields_long (n ∷ ns) =
    omega (arith, length-append (with_comma n) (each with_comma ns), length-append (decimal n) (comma ∷ []), fields_long ns)

-- numbers in a line are their digits, a comma for each but the last, and the line's two bytes
in_line_long : (n : ℕ) (ns : List ℕ) → length (in_line (n ∷ ns)) ≡ total (cost 1) (n ∷ ns) + 1
unfolding joined total
in_line_long n [] = omega (arith, length-append (decimal n) line_end)
in_line_long n (m ∷ ns) =
    omega (arith, length-append (with_comma n) (in_line (m ∷ ns)), length-append (decimal n) (comma ∷ []), in_line_long m ns)

-- 36 bytes for a line, and nine for each time
line_short : (used : ℕ) (t : Task) → FineTask used t → length (line_of t) ≤ 36 + 9 * length t.times
line_short used t f =
    let some : 1 ≤ length t.times = (good-head used (row_of t) f.fields).parts.least in
    let fields : length (each with_comma (fields_of (row_of t))) ≤ 35
    = omega (arith, fields_long (fields_of (row_of t)), head-cost 1 used (fields_of (row_of t)) f.fields) in
    rw (line-parts used t f, length-append (each with_comma (fields_of (row_of t))) (in_line t.times))
    (omega (arith, fields, times_long t.times some f.times))
  where
    times_long : (ts : List ℕ) → 1 ≤ length ts → AllFine (replicate (length ts) time) ts → length (in_line ts) ≤ 9 * length ts + 1
    times_long [] h f = absurd (omega arith)
    times_long (n ∷ ns) h f = omega (arith, in_line_long n ns, times-cost 1 (length (n ∷ ns)) (n ∷ ns) f)

-- lines one after another
pub lines_short : (used : ℕ) (ts : List Task) → FineTasks used ts → length (lines_of ts) ≤ 36 * length ts + 9 * length (all_times ts)
unfolding FineTasks each
lines_short used [] f = rw lines_none (omega arith)
lines_short used (t ∷ ts) f =
    let first = line_short used t f.0 in
    let others = lines_short (used + length t.times) ts f.1 in
    rw (lines_more t ts, length-append (line_of t) (lines_of ts), length-append t.times (all_times ts)) (omega arith)

-- at most 64 rows and 1,024 times
pub text_short : (ts : List Task) → GoodTasks ts → length (lines_of ts) ≤ 11520
text_short ts g =
    let times : 0 + length (all_times ts) ≤ 1024 = times_fit 0 ts (omega arith) g.fine in
    omega (arith, lines_short 0 ts g.fine, g.few)
