-- Laws of how tasks lie in memory: what is stored is found again, and only the used rows and times count. Assumes nothing.
use Prim.Native.Nat.{ℕ, suc, ◌+◌, ◌≤◌}
use native.Mathlib.Omega.{arith}
use mathlib.Core.Path.{◌≡◌, refl, sym, ap, ap₂, ◌∙◌}
use mathlib.Core.List.{List, [], ◌∷◌, ◌++◌, map-append, append_assoc}
use lib.ListN.{length, take, drop, length-map, length-drop}
use lib.Seq.{take-append_seam, drop-append_seam, take_at, take-add, length-take-le}
use Rattle.lists.specs.Lists.{total, each}
use Rattle.lists.proofs.Fronts.{take-front, drop-front}
use Rattle.lists.proofs.Each.{each-length}
use Rattle.model.specs.Task.{Task, parts}
use Rattle.table.specs.declared.Row.{Row}
use Rattle.table.specs.declared.Table.{Table}
use Rattle.table.specs.Verdicts.{◌or_else◌}
use Rattle.table.specs.Memory.{row_of, task_of, all_times, stored, used_rows, used_times, parts_in, tasks_from, tasks_of, rows_of}
use Rattle.table.specs.Faults.{row_fault, rows_fault, fault_of}

-- as many rows as tasks
pub rows-length : (ts : List Task) → length (rows_of ts) ≡ length ts
rows-length ts = length-map ts row_of

-- one task more: its row stands last
pub rows_snoc : (ts : List Task) (t : Task) → rows_of (ts ++ (t ∷ [])) ≡ rows_of ts ++ (row_of t ∷ [])
rows_snoc ts t = map-append row_of ts (t ∷ [])

-- as many times as parts
pub times-count : (ts : List Task) → length (all_times ts) ≡ total parts ts
unfolding parts
times-count ts = each-length (λ t. t.times) ts

-- ---- what is stored is found again

-- the rows and times of tasks, whatever stands behind the times, are those tasks
tasks-found : (ts : List Task) (rest : List ℕ) → tasks_from (rows_of ts) (all_times ts ++ rest) ≡ ts
unfolding tasks_from each
tasks-found [] rest = refl
tasks-found (t ∷ ts) rest =
    rw (append_assoc t.times (all_times ts) rest, take-append_seam, drop-append_seam)
    (ap (◌∷◌ t) (tasks-found ts rest))

-- the used rows of stored tasks
pub stored-rows : (ts : List Task) → used_rows (stored ts) ≡ rows_of ts
stored-rows ts = take_at (rows_of ts) _ (length ts) (rows-length ts)

-- stored tasks are found again
pub tasks-stored : (ts : List Task) → tasks_of (stored ts) ≡ ts
unfolding tasks_of
tasks-stored ts = rw (stored-rows ts) (tasks-found ts _)

-- ---- what is found, where there are times enough

-- the rows are found again
pub rows-found : (rows : List Row) (times : List ℕ) → parts_in rows ≤ length times → rows_of (tasks_from rows times) ≡ rows
unfolding tasks_from total
rows-found [] times h = refl
rows-found (r ∷ rows) times h =
    let own : length (take r.parts times) ≡ r.parts = length-take-le r.parts times (omega arith) in
    rw own (ap (◌∷◌ r) (rows-found rows (drop r.parts times) (rw length-drop (omega arith))))

-- and their times
pub times-found : (rows : List Row) (times : List ℕ) → all_times (tasks_from rows times) ≡ take (parts_in rows) times
unfolding tasks_from total each
times-found [] times = refl
times-found (r ∷ rows) times =
    rw (take-add r.parts (parts_in rows) times) (ap (◌++◌ (take r.parts times)) (times-found rows (drop r.parts times)))

-- as many tasks as rows
pub tasks-length : (rows : List Row) (times : List ℕ) → length (tasks_from rows times) ≡ length rows
unfolding tasks_from
tasks-length [] times = refl
tasks-length (r ∷ rows) times = ap suc (tasks-length rows (drop r.parts times))

-- ---- only the used times count

-- for the tasks
pub tasks-used : (rows : List Row) (times : List ℕ) → tasks_from rows (take (parts_in rows) times) ≡ tasks_from rows times
unfolding tasks_from total
tasks-used [] times = refl
tasks-used (r ∷ rows) times =
    rw (take-front r.parts (parts_in rows) times, drop-front r.parts (parts_in rows) times)
    (ap (◌∷◌ (task_of r (take r.parts times))) (tasks-used rows (drop r.parts times)))

-- and for the first fault
pub faults_used : (i used : ℕ) (rows : List Row) (times : List ℕ)
    → rows_fault i used rows (take (parts_in rows) times) ≡ rows_fault i used rows times
unfolding row_fault rows_fault total
faults_used i used [] times = refl
faults_used i used (r ∷ rows) times =
    rw (take-front r.parts (parts_in rows) times, drop-front r.parts (parts_in rows) times)
    (ap (◌or_else◌ (row_fault i used r times)) (faults_used (suc i) (used + r.parts) rows (drop r.parts times)))

-- tables that use the same rows and times have the same tasks and the same fault
module _ (t u : Table) (count : t.count ≡ u.count) (rows : used_rows t ≡ used_rows u) (times : used_times t ≡ used_times u) where
  -- the same tasks
  pub same_tasks : tasks_of t ≡ tasks_of u
  unfolding tasks_of
  same_tasks = sym (tasks-used (used_rows t) t.times) ∙ ap₂ tasks_from rows times ∙ tasks-used (used_rows u) u.times

  -- the same first fault, row by row
  same_rows_fault : rows_fault 0 0 (used_rows t) t.times ≡ rows_fault 0 0 (used_rows u) u.times
  same_rows_fault = sym (faults_used 0 0 (used_rows t) t.times) ∙ ap₂ (rows_fault 0 0) rows times ∙ faults_used 0 0 (used_rows u) u.times

  -- and with the count and the clashes
  pub same_fault : fault_of t ≡ fault_of u
  unfolding fault_of
  same_fault = rw (same_rows_fault, rows, count)
