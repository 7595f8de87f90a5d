-- The tasks of a good file are good, no two with one id, and so are the rows of each core. From how far reading gets.
use Prim.Native.Nat.{ℕ, ◌≤◌}
use native.Mathlib.Omega.{arith}
use borrow.Author.Tests.{eq-eqb}
use mathlib.Core.Path.{◌≡◌, sym}
use mathlib.Core.Logic.{⊎_elim}
use mathlib.Core.Bool.{Bool}
use mathlib.Core.List.Memᴰ
use mathlib.Core.List.{List, [], ◌∷◌, map}
use lib.ListN.{length, length-map}
use Rattle.lists.specs.Lists.{◌∈◌}
use Rattle.lists.proofs.Tests.{never}
use Rattle.lists.proofs.PadStores.{pad-length}
use Rattle.model.specs.Task.{Task}
use Rattle.model.specs.Rows.{GoodTask, GoodCore}
use Rattle.model.specs.Bounds.{on_core}
use Rattle.table.specs.Rules as R
use Rattle.table.specs.Memory.{row_of, rows_of, zero_row, all_times, stored}
use Rattle.table.specs.Clash.{breaks, clash_of}
use Rattle.table.proofs.Codes.{first_good}
use Rattle.table.proofs.NoClash.{Apart, apart_two, rule_holds}
use Rattle.table.proofs.Stored.{tasks-stored}
use Rattle.table.proofs.GoodTasks.{GoodTasks, times_fit, stored-good}
use Rattle.table.proofs.GoodCore.{good-core}
use Rattle.table.proofs.EachGood.{each-good}
use Rattle.files.proofs.Back.{file_back}
use Rattle.demands.specs.Rules.{GoodFile}
use Rattle.demands.proofs.FileRule.{good-read}

-- no two elements pass a test that what is made of them does not pass
apart_made : {A B : Type 0} (f : B → B → Bool) (g : A → B) (xs : List A) → Apart f (map g xs) → Apart (λ a b. f (g a) (g b)) xs
unfolding Apart
apart_made f g [] d = tt
apart_made f g (x ∷ xs) d = (λ y m. d.0 (g y) (Memᴰ.map g m), apart_made f g xs d.1)

module _ {s : List ℕ} {tasks : List Task} (file : GoodFile s tasks) where
  -- they are read, so they are good
  pub good-tasks : GoodTasks tasks
  good-tasks = (file_back s tasks file.whole.at (good-read file)).good

  -- at most 1,024 times in all
  pub few_times : length (all_times tasks) ≤ 1024
  few_times = omega (arith, times_fit 0 tasks (omega arith) good-tasks.fine)

  -- stored, they fill 64 rows
  pub rows-stored : length (stored tasks).rows ≡ 64
  rows-stored = pad-length zero_row 64 (rows_of tasks) (rw length-map good-tasks.few)

  -- and 1,024 times
  pub times-stored : length (stored tasks).times ≡ 1024
  times-stored = pad-length 0 1024 (all_times tasks) few_times

  -- each of them is in its ranges
  pub task-good : (t : Task) → t ∈ tasks → GoodTask t
  task-good = rw (tasks-stored tasks) at (each-good (stored tasks) rows-stored times-stored (stored-good tasks good-tasks))

  -- no id twice: two of them with one id are the same
  pub one-task : (a b : Task) → a ∈ tasks → b ∈ tasks → a.id ≡ b.id → a ≡ b
  unfolding clash_of breaks
  one-task a b m n e =
      let ids = rule_holds R.SameId (rows_of tasks) (first_good _ _ good-tasks.apart) in
      ⊎_elim (λ same. same)
      (λ other.
      ⊎_elim (λ f. absurd (never (eq-eqb a.id b.id e) f)) (λ f. absurd (never (eq-eqb b.id a.id (sym e)) f)) other)
      (apart_two _ tasks (apart_made (breaks R.SameId) row_of tasks ids) a b m n)

-- the rows of a core of a good file
pub core-good : {s : List ℕ} {tasks : List Task} (core : ℕ) → GoodFile s tasks → GoodCore (on_core core tasks)
core-good {tasks = tasks} core file =
    rw (tasks-stored tasks) at
    (good-core (stored tasks) (rows-stored file) (times-stored file) (stored-good tasks (good-tasks file)) core)
