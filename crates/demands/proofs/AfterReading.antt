-- After reading, the table has the file's tasks and zeros behind them, or zeros only. Assumes nothing.
use Prim.Native.Nat.{ℕ, zero, suc, ◌-◌, ◌≤◌}
use native.Mathlib.Omega.{arith}
use mathlib.Core.Path.{◌≡◌, refl, sym}
use mathlib.Core.List.{List, [], ◌∷◌, ◌++◌}
use lib.ListN.{length, replicate, length-map}
use Rattle.lists.specs.Lists.{total, Place}
use Rattle.model.specs.Task.{Task, parts}
use Rattle.table.specs.declared.Row.{Row}
use Rattle.table.specs.Memory.{rows_of, zero_row, row_of, all_times, stored}
use Rattle.demands.specs.Rules.{GoodFile}
use Rattle.demands.specs.GoodTables.{NoRowsIsGood}
use Rattle.demands.specs.AfterReading.{RowHas, HasTasks, AfterReading}
use Rattle.demands.proofs.FileRule.{read-good}
use Rattle.demands.proofs.GoodFile.{rows-stored, times-stored}
use Rattle.demands.proofs.Answer.{read_says}
use Rattle.lists.proofs.EachPlaces.{place_left}
use Rattle.demands.proofs.Placed.{place_made, time_placed}
use Rattle.table.proofs.Stored.{times-count}
use Rattle.sheet.proofs.Opened.{bytes_read}

-- no rows is a good table
pub no_rows_is_good : NoRowsIsGood
unfolding bytes_read
no_rows_is_good = refl

-- among copies of one thing stands that thing
place_copies : {A : Type 0} (fill : A) (m i : ℕ) (x : A) → Place (replicate m fill) i x → x ≡ fill
unfolding Place
place_copies fill zero i x p = absurd p
place_copies fill (suc m) zero x p = sym p
place_copies fill (suc m) (suc i) x p = place_copies fill m i x p

-- behind a list stands the fill
place_fill : {A : Type 0} (fill : A) (m : ℕ) (xs : List A) (i : ℕ) (x : A)
    → length xs ≤ i → Place (xs ++ replicate m fill) i x → x ≡ fill
unfolding Place
place_fill fill m [] i x h p = place_copies fill m i x p
place_fill fill m (y ∷ ys) zero x h p = absurd (omega arith)
place_fill fill m (y ∷ ys) (suc i) x h p = place_fill fill m ys i x (omega arith) p

-- a row has its own fields
has_own : (r : Row) → RowHas r r.id r.core r.kind r.priority r.period r.deadline r.parts
has_own r =
    record {
      its_id = refl;
      its_core = refl;
      its_kind = refl;
      its_priority = refl;
      its_period = refl;
      its_deadline = refl;
      its_parts = refl;
    }

-- a good file's tasks, stored
file_has : {s : List ℕ} {tasks : List Task} → GoodFile s tasks → HasTasks tasks (stored tasks)
unfolding parts
file_has {tasks = ts} g =
    record {
      row = λ i u p. (row_of u, place_left (rows_of ts) _ i (row_of u) (place_made row_of ts i u p), has_own (row_of u));
      time = λ i u l p h. time_placed ts _ i u l p h;
      unused =
          record {
            count = refl;
            places = (rows-stored g, times-stored g);
            row =
                λ i r h p.
                rw (place_fill zero_row (64 - length (rows_of ts)) (rows_of ts) i r (rw length-map h) p) (has_own zero_row);
            time = λ i x h p. place_fill 0 (1024 - length (all_times ts)) (all_times ts) i x (rw times-count h) p;
          };
    }

-- after a refused read, whose table is that of no rows, and after a good one
pub after-reading : AfterReading
unfolding total
after-reading =
    record {
      refused = λ s n. rw ((read_says s).zeros n) (file_has (read-good (0 ∷ []) [] 1 no_rows_is_good)).unused;
      read = λ s tasks g. rw ((read_says s).rows tasks g) (file_has g);
    }
