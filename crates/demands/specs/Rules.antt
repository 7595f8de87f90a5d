-- Document 01, "Codes and what they leave": when each code is given, in its words, with the number carried and the order of codes.
use Rattle.std.specs.Prelude.{ℕ, ◌≤◌, ◌<◌, ◌≡◌, ◌⊎◌, List, length, drop}
use Rattle.lists.specs.Lists.{Place}
use Rattle.numbers.specs.Numbers.{number_at}
use Rattle.numbers.specs.Numbers as N
use Rattle.model.specs.Task.{Task}
use Rattle.model.specs.Rows.{Within}
use Rattle.model.specs.Bounds.{on_core}
use Rattle.model.specs.Verdict.{Passes, NoWindow, Misses}
use Rattle.table.specs.declared.Row.{Row}
use Rattle.table.specs.Rules.{Rule}
use Rattle.table.specs.Rules as R
use Rattle.table.specs.declared.Verdict.{Verdict}
use Rattle.table.specs.declared.Verdict.TheVariants as C
use Rattle.table.specs.declared.Wanted.{Wanted}
use Rattle.table.specs.Memory.{rows_of}
use Rattle.analysis.specs.Analysis.{needed}
use Rattle.demands.specs.Reached.{CutOff, IllFormed, Rows, Wants}

-- ---- 1, 2, 3, 7: the number wanted at a place

-- a wanted number is refused
pub data NumberRule (s : List ℕ) (w : Wanted) (at : ℕ) : Verdict → Type 0 where
  -- the input ends before it is complete: file length
  cut : CutOff (drop at s) → NumberRule s w at (C.EndsEarly (length s))
  -- it is longer than four bytes, or its last byte is zero and not its only one: offset of its first byte
  ill : IllFormed (drop at s) → NumberRule s w at (C.Malformed at)
  -- it is out of its range: offset of its first byte
  out : {v next : ℕ} → number_at s at ≡ N.Got v next → (Within w.low w.high v → ⊥) → NumberRule s w at (C.OutOfRange at)
  -- a part count takes the total above 1,024: offset of that count
  over : {v next : ℕ} → number_at s at ≡ N.Got v next → Within w.low w.high v → w.left < v
      → NumberRule s w at (C.TooManyTimes at)

-- ---- 4, 5, 6: the first row that clashes with an earlier row

-- the first is cooperative, the second preemptive, and the first higher
pub record CooperativeAbove (a b : Row) : Type 0 where
  pub cooperative : a.kind ≡ 1
  pub preemptive : b.kind ≡ 0
  pub higher : b.priority < a.priority

-- a row and an earlier one
abbrev pub Breaks : Rule → Row → Row → Type 0
-- id used before
Breaks R.SameId r e = e.id ≡ r.id
-- priority used before on the same core
Breaks R.SamePriority r e = (e.core ≡ r.core) × (e.priority ≡ r.priority)
-- a cooperative and a preemptive row on one core, the cooperative one higher
Breaks R.KindsCrossed r e = (e.core ≡ r.core) × (CooperativeAbove r e ⊎ CooperativeAbove e r)

-- row i clashes with an earlier row
pub record Clashes (rule : Rule) (rows : List Row) (i : ℕ) : Type 0 where
  pub j : ℕ
  pub row : Row
  pub earlier : Row
  pub before : j < i
  pub here : Place rows i row
  pub there : Place rows j earlier
  pub broken : Breaks rule row earlier

-- and no row before it does
pub record First (rule : Rule) (rows : List Row) (i : ℕ) : Type 0 where
  pub clashes : Clashes rule rows i
  pub none : (k : ℕ) → k < i → Clashes rule rows k → ⊥

-- no row does
abbrev pub None : Rule → List Row → Type 0
None rule rows = (i : ℕ) → Clashes rule rows i → ⊥

-- 4 over the whole table, then 5, then 6: the row, from 0
pub data ClashRule (rows : List Row) : Verdict → Type 0 where
  id : {n : ℕ} → First R.SameId rows n → ClashRule rows (C.IdTwice n)
  priority : {n : ℕ} → None R.SameId rows → First R.SamePriority rows n → ClashRule rows (C.PriorityTwice n)
  kinds : {n : ℕ} → None R.SameId rows → None R.SamePriority rows → First R.KindsCrossed rows n → ClashRule rows (C.KindsCrossed n)
  none : None R.SameId rows → None R.SamePriority rows → None R.KindsCrossed rows → ClashRule rows C.Good

-- ---- the codes of a file: the first of 1, 2, 3, 7 in file order; then 8; then 4, 5, 6

-- the file is these rows, and no byte stands behind them
pub record Whole (s : List ℕ) (tasks : List Task) : Type 0 where
  pub at : ℕ
  pub rows : Rows s 0 tasks at
  pub last : length s ≤ at

-- a file is refused, or has no fault
pub data FileRule (s : List ℕ) : Verdict → Type 0 where
  number : {at : ℕ} {w : Wanted} {v : Verdict} → Wants s at w → NumberRule s w at v → FileRule s v
  -- bytes after the last row: offset of the first
  rest : {tasks : List Task} {at : ℕ} → Rows s 0 tasks at → at < length s → FileRule s (C.Trailing at)
  table : {tasks : List Task} {v : Verdict} → Whole s tasks → ClashRule (rows_of tasks) v → FileRule s v

-- a good file, and the tasks that it has
pub record GoodFile (s : List ℕ) (tasks : List Task) : Type 0 where
  pub whole : Whole s tasks
  pub apart : ClashRule (rows_of tasks) C.Good

-- ---- 9, 10, 11, 12 and 0: a core, its rows, and so much room

-- there is such a core, and room for the parts on it
pub record RoomFor (core : ℕ) (rows : List Task) (room : ℕ) : Type 0 where
  pub such : core ≤ 3
  pub fits : needed rows ≤ room

-- what is said of a core
pub data CoreRule (core : ℕ) (rows : List Task) (room : ℕ) : Verdict → Type 0 where
  -- core asked for above 3: that core
  above : 3 < core → CoreRule core rows room (C.NoSuchCore core)
  -- room too short: elements needed
  short : core ≤ 3 → room < needed rows → CoreRule core rows room (C.NoRoom (needed rows))
  -- a window has no length up to the limit: id of the highest such task
  window : {t : Task} → RoomFor core rows room → NoWindow rows t → CoreRule core rows room (C.NoWindow t.id)
  -- a deadline is missed: id of the highest such task
  late : {t : Task} → RoomFor core rows room → Misses rows t → CoreRule core rows room (C.Missed t.id)
  -- good: every row has a window up to the limit, and its last bound is within its deadline
  passes : RoomFor core rows room → Passes rows → CoreRule core rows room C.Good

-- an analysis: the reading codes, and for a good file those of the core
pub data AnalysisRule (s : List ℕ) (core room : ℕ) : Verdict → Type 0 where
  reading : {v : Verdict} → FileRule s v → (v ≡ C.Good → ⊥) → AnalysisRule s core room v
  analysed : {v : Verdict} {tasks : List Task} → GoodFile s tasks → CoreRule core (on_core core tasks) room v → AnalysisRule s core room v
