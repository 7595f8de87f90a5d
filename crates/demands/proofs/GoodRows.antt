-- The tasks of a good file are good rows, and good rows are those of the file that they are written as. Assumes nothing.
use Prim.Native.Nat.{ℕ, zero, suc, ◌+◌, ◌/◌, ◌≤◌, ◌<◌}
use native.Mathlib.Omega.{arith}
use borrow.Author.Tests.{ltb-true}
use mathlib.Core.Path.{◌≡◌, refl, sym, ap}
use mathlib.Core.Logic.{◌⊎◌, inl, inr, ⊎_elim}
use mathlib.Core.List.{List, [], ◌∷◌, ◌++◌}
use lib.ListN.{length, get_or, replicate}
use lib.Dec.{ltb}
use Rattle.lists.specs.Lists.{each, total, Place}
use Rattle.lists.proofs.Tests.{by_test, either}
use Rattle.lists.proofs.Places.{place_in_lem}
use Rattle.numbers.specs.Numbers.{Bytes, encode_in, encode, encode_all}
use Rattle.model.specs.Task.{Task, parts, part}
use Rattle.model.specs.Rows.{Within, GoodTask}
use Rattle.table.specs.declared.Row.{Row}
use Rattle.table.specs.Rules.{Rule}
use Rattle.table.specs.Rules as R
use Rattle.table.specs.declared.Verdict.{Verdict}
use Rattle.table.specs.Verdicts.{code_of}
use Rattle.table.specs.Fields.{field, part_count, head, time}
use Rattle.table.specs.Memory.{rows_of, row_of}
use Rattle.table.proofs.Stored.{times-count}
use Rattle.table.proofs.Fine.{Fine, AllFine}
use Rattle.table.proofs.GoodTasks.{FineTask, FineTasks, GoodTasks}
use Rattle.files.specs.Writing.{encode_file}
use Rattle.files.proofs.Trip.{file-here}
use Rattle.demands.specs.Rules.{CooperativeAbove, Breaks, Clashes, None, ClashRule, GoodFile}
use Rattle.demands.specs.GoodTables.{Against, GoodRows, GoodTables}
use Rattle.demands.proofs.ClashRule.{rule_clashes}
use Rattle.demands.proofs.FileRule.{read-good}
use Rattle.demands.proofs.Placed.{place_made, made_place}
use Rattle.demands.proofs.GoodFile.{good-tasks, few_times, task-good}

-- ---- a file that is written has bytes

-- bytes behind bytes
bytes-append : (s z : List ℕ) → Bytes s → Bytes z → Bytes (s ++ z)
bytes-append [] z b c i = c i
bytes-append (x ∷ s) z b c zero = b zero
bytes-append (x ∷ s) z b c (suc i) = bytes-append s z (λ k. b (suc k)) c i

-- one byte more
bytes_more : (x : ℕ) (s : List ℕ) → x < 256 → Bytes s → Bytes (x ∷ s)
bytes_more x s h b zero = h
bytes_more x s h b (suc i) = b i

-- none
bytes_none : Bytes []
bytes_none i = omega arith

-- a number in seven-bit groups
bytes_number : (k n : ℕ) → Bytes (encode_in k n)
unfolding encode_in
bytes_number zero n = bytes_none
bytes_number (suc k) n =
    by_test (ltb n 128) (λ e. rw e (bytes_more n [] (omega (arith, ltb-true n 128 e)) bytes_none))
    (λ e. rw e (bytes_more _ (encode_in k (n / 128)) (omega arith) (bytes_number k (n / 128))))

-- numbers one after another
bytes-numbers : (ns : List ℕ) → Bytes (encode_all ns)
unfolding each encode
bytes-numbers [] = bytes_none
bytes-numbers (n ∷ ns) = bytes-append (encode n) (encode_all ns) (bytes_number 5 n) (bytes-numbers ns)

-- a file
bytes-file : (tasks : List Task) → Bytes (encode_file tasks)
unfolding encode_file
bytes-file tasks = bytes-numbers _

-- ---- the clashes of rows are those of their tasks

-- whichever of two tasks is the earlier, their rows break a rule
against_breaks : {a b : Task} → Against a b → (rule : Rule) × Breaks rule (row_of b) (row_of a) × Breaks rule (row_of a) (row_of b)
against_breaks (Against.id e) = (R.SameId, e, sym e)
against_breaks (Against.priority c p) = (R.SamePriority, (c, p), (sym c, sym p))
against_breaks {a} {b} (Against.kinds c k z h) =
    let above : CooperativeAbove (row_of a) (row_of b) = record { cooperative = k; preemptive = z; higher = h } in
    (R.KindsCrossed, (c, inr above), (sym c, inl above))

-- rows that break a rule are those of tasks against each other
breaks_against : (rule : Rule) (a b : Task) → Breaks rule (row_of b) (row_of a) → Against a b ⊎ Against b a
breaks_against R.SameId a b e = inl (Against.id e)
breaks_against R.SamePriority a b e = inl (Against.priority e.0 e.1)
breaks_against R.KindsCrossed a b e =
    ⊎_elim (λ c. inr (Against.kinds (sym e.0) c.cooperative c.preemptive c.higher))
    (λ c. inl (Against.kinds e.0 c.cooperative c.preemptive c.higher))
    e.1

-- where the rows are good, none breaks a rule
good_none : {rows : List Row} {v : Verdict} → ClashRule rows v → code_of v ≡ 0 → (rule : Rule) → None rule rows
good_none (ClashRule.id f) e rule = absurd (omega arith)
good_none (ClashRule.priority a f) e rule = absurd (omega arith)
good_none (ClashRule.kinds a b f) e rule = absurd (omega arith)
good_none (ClashRule.none a b c) e R.SameId = a
good_none (ClashRule.none a b c) e R.SamePriority = b
good_none (ClashRule.none a b c) e R.KindsCrossed = c

module _ (tasks : List Task) where
  -- a task and an earlier one whose rows break a rule
  clash_of_lem : (rule : Rule) (i j : ℕ) (a b : Task) → j < i → Place tasks i a → Place tasks j b → Breaks rule (row_of a) (row_of b)
      → Clashes rule (rows_of tasks) i
  clash_of_lem rule i j a b h p q e =
      record {
        j = j;
        row = row_of a;
        earlier = row_of b;
        before = h;
        here = place_made row_of tasks i a p;
        there = place_made row_of tasks j b q;
        broken = e;
      }

  -- where no rule is broken, no two tasks are against each other
  none_against : ((rule : Rule) → None rule (rows_of tasks)) → (i j : ℕ) (a b : Task) → Place tasks i a → Place tasks j b
      → (i ≡ j → ⊥) → Against a b → ⊥
  none_against none i j a b p q other c =
      let r = against_breaks c in
      ⊎_elim (λ h. none r.0 j (clash_of_lem r.0 j i b a h q p r.1))
      (λ h. none r.0 i (clash_of_lem r.0 i j a b (omega (arith, other)) p q r.2))
      (either i j)

  -- where no two tasks are, no rule is broken
  against_none : GoodRows tasks → (rule : Rule) → None rule (rows_of tasks)
  against_none g rule i c =
      let a = made_place row_of tasks i c.row c.here in
      let b = made_place row_of tasks c.j c.earlier c.there in
      let broken : Breaks rule (row_of a.0) (row_of b.0) = rw (a.2, b.2) c.broken in
      ⊎_elim (g.apart c.j i b.0 a.0 b.1 a.1 (λ e. omega (arith, c.before)))
      (g.apart i c.j a.0 b.0 a.1 b.1 (λ e. omega (arith, c.before)))
      (breaks_against rule b.0 a.0 broken)

-- ---- good rows are good tasks

-- a number in its range may stand in its field
in_field : {low high n : ℕ} → Within low high n → Fine (field low high) n
in_field w = record { least = w.least; most = w.most; room = w.most }

-- times in their range
fine_times : (ns : List ℕ) → ((r : ℕ) → r < length ns → Within 1 16777215 (get_or ns r 0)) → AllFine (replicate (length ns) time) ns
unfolding AllFine
fine_times [] f = tt
fine_times (n ∷ ns) f = (in_field (f 0 (omega arith)), fine_times ns (λ r h. f (suc r) (omega arith)))

-- a task whose times fit behind those before it
fine_task : (used : ℕ) (t : Task) → GoodTask t → used + parts t ≤ 1024 → FineTask used t
unfolding head AllFine parts part
fine_task used t g h =
    let count : Fine (part_count used) (length t.times) = record { least = g.count.least; most = g.count.most; room = omega arith } in
    let id = in_field g.id in
    let core = in_field g.core in
    let kind = in_field g.kind in
    let priority = in_field g.priority in
    record {
      fields = (id, (core, (kind, (priority, (in_field g.period, (in_field g.deadline, (count, tt)))))));
      times = fine_times t.times g.time;
    }

-- tasks one after another
fine_tasks : (used : ℕ) (ts : List Task) → ((i : ℕ) (t : Task) → Place ts i t → GoodTask t) → used + total parts ts ≤ 1024
    → FineTasks used ts
unfolding FineTasks total parts Place
fine_tasks used [] g h = tt
fine_tasks used (t ∷ ts) g h = (
  fine_task used t (g 0 t refl) (unfold parts in omega arith),
  fine_tasks (used + length t.times) ts (λ i u p. g (suc i) u p) (omega arith),
)

-- good rows
rows-good : (tasks : List Task) → GoodRows tasks → GoodTasks tasks
rows-good tasks g =
    let none = against_none tasks g in
    record {
      few = g.rows;
      fine = fine_tasks 0 tasks g.ranges (omega (arith, g.times));
      apart = ap code_of (rule_clashes (rows_of tasks) (ClashRule.none (none R.SameId) (none R.SamePriority) (none R.KindsCrossed)));
    }

-- ---- both ways

-- a good file has good rows
file_rows_lem : (s : List ℕ) (tasks : List Task) → GoodFile s tasks → GoodRows tasks
file_rows_lem s tasks file =
    record {
      rows = (good-tasks file).few;
      times = omega (arith, times-count tasks, few_times file);
      ranges = λ i t p. task-good file t (place_in_lem tasks i t p);
      apart = none_against tasks (good_none file.apart refl);
    }

-- exactly those
pub good_tables_lem : GoodTables
good_tables_lem tasks = (
  λ f. file_rows_lem f.0 tasks f.2,
  λ g. (encode_file tasks, bytes-file tasks, read-good (encode_file tasks) tasks _ (file-here tasks (rows-good tasks g))),
)
