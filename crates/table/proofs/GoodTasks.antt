-- Good tasks: a table that stores them has no fault, and a table in memory that has none holds such tasks. Assumes nothing.
use Prim.Native.Nat.{ℕ, suc, ◌+◌, ◌-◌, ◌≤◌}
use native.Mathlib.Omega.{arith}
use borrow.Author.Tests.{lt-ltb, le-ltb}
use mathlib.Core.Path.{◌≡◌, refl, sym, ap, ◌∙◌}
use mathlib.Core.Logic.{⊎_elim}
use mathlib.Core.List.{List, [], ◌∷◌, ◌++◌, append_assoc}
use lib.ListN.{length, take, drop, replicate, length-append, length-drop, length-replicate}
use lib.Seq.{take-append_seam, drop-append_seam, length-take-le}
use Rattle.lists.specs.Lists.{total, pad_to, each}
use Rattle.lists.proofs.Tests.{either}
use Rattle.model.specs.Task.{Task}
use Rattle.table.specs.declared.Row.{Row}
use Rattle.table.specs.declared.Table.{Table}
use Rattle.table.specs.declared.Verdict.TheVariants.{Good}
use Rattle.table.specs.Verdicts.{code_of, ◌or_else◌}
use Rattle.table.specs.Fields.{head, time, fields_of}
use Rattle.table.specs.Memory.{zero_row, row_of, task_of, all_times, stored, used_rows, used_times, parts_in, tasks_from, tasks_of, rows_of}
use Rattle.table.specs.Clash.{clash_of}
use Rattle.table.specs.Faults.{row_fault, rows_fault, fault_of}
use Rattle.table.proofs.Codes.{or-good, first_good, then_good}
use Rattle.table.proofs.Fine.{AllFine, all-good, good-all}
use Rattle.table.proofs.Heads.{good-head, head-found}
use Rattle.table.proofs.Stored.{stored-rows, rows-found, times-found, tasks-length}

-- a task with `used` times before it: its fields and its times are what they may be
pub record FineTask (used : ℕ) (t : Task) : Type 0 where
  pub fields : AllFine (head used) (fields_of (row_of t))
  pub times : AllFine (replicate (length t.times) time) t.times

-- tasks one after another
unfoldable pub FineTasks : ℕ → List Task → Type 0
FineTasks used [] = Unit {0}
FineTasks used (t ∷ ts) = FineTask used t × FineTasks (used + length t.times) ts

-- the tasks of a good table
pub record GoodTasks (ts : List Task) : Type 0 where
  pub few : length ts ≤ 64
  pub fine : FineTasks 0 ts
  pub apart : code_of (clash_of (rows_of ts)) ≡ 0

-- they have at most 1,024 times in all
pub times_fit : (used : ℕ) (ts : List Task) → used ≤ 1024 → FineTasks used ts → used + length (all_times ts) ≤ 1024
unfolding FineTasks each
times_fit used [] h f = omega arith
times_fit used (t ∷ ts) h f =
    let here : used + length t.times ≤ 1024 = (good-head used (row_of t) f.0.fields).room in
    omega (arith, length-append t.times (all_times ts), times_fit (used + length t.times) ts here f.1)

-- ---- good tasks have no fault where they are stored

-- a row, its times in front
row-good : (i used : ℕ) (t : Task) (rest : List ℕ) → FineTask used t → row_fault i used (row_of t) (t.times ++ rest) ≡ Good
unfolding row_fault
row-good i used t rest f =
    or-good _ _ (ap code_of (all-good (head used) i _ f.fields))
    ∙ rw (take-append_seam t.times rest) (all-good _ i t.times f.times)

-- rows one after another
rows-good : (i used : ℕ) (ts : List Task) (rest : List ℕ) → FineTasks used ts → rows_fault i used (rows_of ts) (all_times ts ++ rest) ≡ Good
unfolding rows_fault FineTasks each
rows-good i used [] rest f = refl
rows-good i used (t ∷ ts) rest f =
    rw (append_assoc t.times (all_times ts) rest)
    (or-good _ _ (ap code_of (row-good i used t (all_times ts ++ rest) f.0))
    ∙ rw (drop-append_seam t.times (all_times ts ++ rest)) (rows-good (suc i) (used + length t.times) ts rest f.1))

-- the whole table
pub stored-good : (ts : List Task) → GoodTasks ts → code_of (fault_of (stored ts)) ≡ 0
unfolding fault_of
stored-good ts g =
    rw (le-ltb 64 (length ts) g.few, stored-rows ts)
    (ap code_of (or-good _ (clash_of (rows_of ts)) (ap code_of (rows-good 0 0 ts _ g.fine))) ∙ g.apart)

-- ---- a table without a fault has good tasks

-- rows without a fault: their tasks are fine, and there are times enough
record Found (used : ℕ) (rows : List Row) (times : List ℕ) : Type 0 where
  fine : FineTasks used (tasks_from rows times)
  enough : parts_in rows ≤ length times

-- a row without a fault, its times in front
row-found : (i used : ℕ) (r : Row) (times : List ℕ) → code_of (row_fault i used r times) ≡ 0 → r.parts ≤ length times
    → FineTask used (task_of r (take r.parts times))
unfolding row_fault
row-found i used r times e h =
    let own : length (take r.parts times) ≡ r.parts = length-take-le r.parts times h in
    let same : length (replicate r.parts time) ≡ length (take r.parts times) = length-replicate r.parts time ∙ sym own in
    record {
      fields = rw own (good-all (head used) i (fields_of r) (unfold head in refl) (first_good _ _ e));
      times = rw own (good-all (replicate r.parts time) i (take r.parts times) same (then_good _ _ e));
    }

-- row by row: each leaves the others their times
found : (i used : ℕ) (rows : List Row) (times : List ℕ) → 1024 ≤ used + length times → code_of (rows_fault i used rows times) ≡ 0
    → Found used rows times
unfolding rows_fault row_fault tasks_from FineTasks total
found i used [] times h e = record { fine = tt; enough = omega arith }
found i used (r ∷ rows) times h e =
    let mine : code_of (row_fault i used r times) ≡ 0 = first_good (row_fault i used r times) _ e in
    let room : used + r.parts ≤ 1024 = (head-found used i r (first_good _ _ mine)).room in
    let own : length (take r.parts times) ≡ r.parts = length-take-le r.parts times (omega arith) in
    let left : length (drop r.parts times) ≡ length times - r.parts = length-drop r.parts times in
    let others = found (suc i) (used + r.parts) rows (drop r.parts times) (omega arith) (then_good (row_fault i used r times) _ e) in
    record { fine = (row-found i used r times mine (omega arith), rw own others.fine); enough = omega (arith, others.enough) }

-- a table in memory has 64 rows and 1,024 times, by its type
module _ (t : Table) (rows : length t.rows ≡ 64) (times : length t.times ≡ 1024) (e : code_of (fault_of t) ≡ 0) where
  -- its row count is in range
  pub count_few : t.count ≤ 64
  unfolding fault_of
  count_few = ⊎_elim (λ over. absurd (omega (arith, rw (lt-ltb 64 t.count over) at e))) (λ h. h) (either 64 t.count)

  -- so its rows have no fault and do not clash
  pub no_fault : code_of (rows_fault 0 0 (used_rows t) t.times or_else clash_of (used_rows t)) ≡ 0
  unfolding fault_of
  no_fault = rw (le-ltb 64 t.count count_few) at e

  -- there are times enough
  all_found : Found 0 (used_rows t) t.times
  all_found = found 0 0 (used_rows t) t.times (omega arith) (first_good _ _ no_fault)

  -- its rows are those of its tasks
  pub rows_same : rows_of (tasks_of t) ≡ used_rows t
  unfolding tasks_of
  rows_same = rows-found (used_rows t) t.times all_found.enough

  -- its row count is how many they are
  pub count_same : length (tasks_of t) ≡ t.count
  unfolding tasks_of
  count_same = tasks-length (used_rows t) t.times ∙ length-take-le t.count t.rows (omega (arith, count_few))

  -- they are good
  pub tasks-good : GoodTasks (tasks_of t)
  tasks-good =
      record {
        few = omega (arith, count_same, count_few);
        fine = unfold tasks_of in all_found.fine;
        apart = rw rows_same (then_good _ _ no_fault);
      }

  -- and stored again they are its own rows and times, with zeros behind them
  pub stored_again : stored (tasks_of t)
      ≡ record { count = t.count; rows = pad_to zero_row 64 (used_rows t); times = pad_to 0 1024 (used_times t) }
  stored_again =
      let own : all_times (tasks_of t) ≡ used_times t = unfold tasks_of in times-found (used_rows t) t.times in
      rw (rows_same, own, count_same)
