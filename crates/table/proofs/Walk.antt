-- Going through a good table's rows, as code holds them: the rows from a place on, and the times that are left. Assumes nothing.
use Prim.Native.Nat.{ℕ, ◌+◌, ◌≤◌, ◌<◌}
use native.Mathlib.Numerals.{add-one}
use native.Mathlib.Omega.{arith}
use mathlib.Core.Path.{◌≡◌, refl, sym, ap, ◌∙◌}
use mathlib.Core.List.Memᴰ
use mathlib.Core.List.{List, [], ◌∷◌, ◌++◌, append_assoc}
use lib.ListN.{length, get_or, take, drop, length-append, length-drop, take-append-drop, drop_of_length-le}
use lib.Seq.{drop-cons, take-append_seam, drop-append_seam}
use Rattle.lists.specs.Lists.{◌∈◌, each}
use Rattle.model.specs.Task.{Task}
use Rattle.model.specs.Rows.{GoodTask}
use Rattle.table.specs.declared.Row.{Row}
use Rattle.table.specs.declared.GoodTable.{GoodTable}
use Rattle.table.specs.Memory.{zero_row, row_of, all_times, stored, used_rows, used_times, parts_in, tasks_of, rows_of}
use Rattle.table.proofs.Stored.{stored-rows, times-found}
use Rattle.table.proofs.GoodTasks.{rows_same}
use Rattle.table.proofs.EachGood.{each-good}

-- the rows from place i on are those of good tasks, and the times that are left begin with theirs
pub record Left (rows : List Row) (times : List ℕ) (i : ℕ) (tasks : List Task) : Type 0 where
  pub good : (u : Task) → u ∈ tasks → GoodTask u
  pub rows_are : drop i rows ≡ rows_of tasks
  pub more : List ℕ
  pub times_are : times ≡ all_times tasks ++ more

-- the next task: its row, its times in front of those that are left, and what is left behind it
pub record Next (rows : List Row) (times : List ℕ) (i : ℕ) (tasks : List Task) : Type 0 where
  pub task : Task
  pub others : List Task
  pub first : tasks ≡ task ∷ others
  pub good : GoodTask task
  pub row : get_or rows i zero_row ≡ row_of task
  pub room : (get_or rows i zero_row).parts ≤ length times
  pub own : take (get_or rows i zero_row).parts times ≡ task.times
  pub left : Left rows (drop (get_or rows i zero_row).parts times) (i + 1) others

module _ {rows : List Row} {times : List ℕ} {i : ℕ} where
  -- there is one before the last row
  pub next : (tasks : List Task) → Left rows times i tasks → i < length rows → Next rows times i tasks
  unfolding each
  next [] l h = absurd (omega (arith, length-drop i rows, ap length l.rows_are))
  next (u ∷ us) l h =
      let here : get_or rows i zero_row ∷ drop (i + 1) rows ≡ row_of u ∷ rows_of us
      = rw (drop-cons rows i zero_row h, ← add-one) at l.rows_are in
      let row : get_or rows i zero_row ≡ row_of u = cc in
      let parts : (get_or rows i zero_row).parts ≡ length u.times = ap (λ (r : Row). r.parts) row in
      let all : times ≡ u.times ++ (all_times us ++ l.more) = l.times_are ∙ append_assoc u.times (all_times us) l.more in
      record {
        task = u;
        others = us;
        first = refl;
        good = l.good u (Memᴰ.head refl);
        row = row;
        room = rw (parts, all) (omega (arith, length-append u.times (all_times us ++ l.more)));
        own = rw (parts, all) (take-append_seam u.times _);
        left =
            record {
              good = λ v m. l.good v (Memᴰ.tail m);
              rows_are = cc;
              more = l.more;
              times_are = rw (parts, all) (drop-append_seam u.times _);
            };
      }

  -- and none past it
  pub none_left : (tasks : List Task) → Left rows times i tasks → length rows ≤ i → tasks ≡ []
  none_left [] l h = refl
  none_left (u ∷ us) l h =
      let none : drop i rows ≡ [] = drop_of_length-le rows h in absurd (omega (arith, ap length (sym none ∙ l.rows_are)))

-- ---- where a walk starts

-- at stored good tasks: all are left, also where two of them clash
pub stored_ahead : (ts : List Task) → ((u : Task) → u ∈ ts → GoodTask u) → Left (used_rows (stored ts)) (stored ts).times 0 ts
stored_ahead ts good = record { good = good; rows_are = stored-rows ts; more = _; times_are = refl }

-- at a good table: all its rows and times are left
pub all_left : (t : GoodTable) → Left (used_rows t.table) t.table.times 0 (tasks_of t.table)
all_left t =
    let own : all_times (tasks_of t.table) ≡ used_times t.table = unfold tasks_of in times-found (used_rows t.table) t.table.times in
    record {
      good = each-good t.table t.all_rows t.all_times t.good;
      rows_are = sym (rows_same t.table t.all_rows t.all_times t.good);
      more = drop (parts_in (used_rows t.table)) t.table.times;
      times_are = rw own (sym (take-append-drop (parts_in (used_rows t.table)) t.table.times));
    }
