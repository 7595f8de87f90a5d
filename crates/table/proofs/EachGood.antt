-- Each task of a good table is a good task. Assumes nothing.
use Prim.Native.Nat.{ℕ, ◌+◌, zero, suc, ◌<◌}
use native.Mathlib.Omega.{arith}
use mathlib.Core.Path.{◌≡◌}
use mathlib.Core.List.Memᴰ
use mathlib.Core.List.{List, [], ◌∷◌}
use lib.ListN.{length, get_or, replicate}
use Rattle.lists.specs.Lists.{◌∈◌}
use Rattle.model.specs.Task.{Task, parts, part}
use Rattle.model.specs.Rows.{Within, GoodTask}
use Rattle.table.specs.declared.Table.{Table}
use Rattle.table.specs.Verdicts.{code_of}
use Rattle.table.specs.Fields.{time}
use Rattle.table.specs.Memory.{row_of, tasks_of}
use Rattle.table.specs.Faults.{fault_of}
use Rattle.table.proofs.Fine.{AllFine}
use Rattle.table.proofs.Heads.{good-head}
use Rattle.table.proofs.GoodTasks.{FineTask, FineTasks, tasks-good}

-- fine times are each in the range of a time
time_within : (ns : List ℕ) → AllFine (replicate (length ns) time) ns → (r : ℕ) → r < length ns → Within 1 16777215 (get_or ns r 0)
unfolding AllFine
time_within [] f r h = absurd (omega arith)
time_within (n ∷ ns) f zero h = record { least = f.0.least; most = f.0.most }
time_within (n ∷ ns) f (suc r) h = time_within ns f.1 r (omega arith)

-- a task that is fine in its place is a good one
fine_good-task : (used : ℕ) (u : Task) → FineTask used u → GoodTask u
unfolding parts part
fine_good-task used u f =
    let h = good-head used (row_of u) f.fields in
    record {
      id = h.id;
      core = h.core;
      kind = h.kind;
      priority = h.priority;
      period = h.period;
      deadline = h.deadline;
      count = h.parts;
      time = time_within u.times f.times;
    }

-- so are tasks that are fine one after another
fine_each : (used : ℕ) (ts : List Task) → FineTasks used ts → (u : Task) → u ∈ ts → GoodTask u
unfolding FineTasks
fine_each used [] f u m = elim m [ ]
fine_each used (t ∷ us) f u (Memᴰ.head e) = rw e (fine_good-task used t f.0)
fine_each used (t ∷ us) f u (Memᴰ.tail m) = fine_each (used + length (t.times)) us f.1 u m

-- and those of a table without a fault
pub each-good : (t : Table) → length t.rows ≡ 64 → length t.times ≡ 1024 → code_of (fault_of t) ≡ 0
    → (u : Task) → u ∈ tasks_of t → GoodTask u
each-good t rows times e = fine_each 0 (tasks_of t) (tasks-good t rows times e).fine
