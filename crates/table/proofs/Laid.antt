-- Laying tasks in memory one after another: a row behind the rows, its times behind the times, zeros behind both. Assumes nothing.
use Prim.Native.Nat.{ℕ, ◌+◌, ◌≤◌, ◌<◌}
use native.Mathlib.Omega.{arith}
use mathlib.Core.Path.{◌≡◌, sym, ap, ◌∙◌}
use mathlib.Core.List.{List, [], ◌∷◌, ◌++◌}
use lib.ListN.{length, set, length-append}
use lib.Seq.{sets}
use Rattle.lists.specs.Lists.{pad_to}
use Rattle.lists.proofs.Each.{each_snoc}
use Rattle.lists.proofs.Pads.{set-pad}
use Rattle.lists.proofs.PadStores.{pad-length, sets-pad}
use Rattle.model.specs.Task.{Task}
use Rattle.table.specs.declared.Row.{Row}
use Rattle.table.specs.Memory.{zero_row, row_of, all_times, stored, rows_of}
use Rattle.table.proofs.Stored.{rows-length, rows_snoc}

-- `count` tasks that have `kept` times lie there
pub record Laid (mine : List Task) (rows : List Row) (times : List ℕ) (count kept : ℕ) : Type 0 where
  pub number : count ≡ length mine
  pub total : kept ≡ length (all_times mine)
  pub rows_are : rows ≡ pad_to zero_row 64 (rows_of mine)
  pub times_are : times ≡ pad_to 0 1024 (all_times mine)

module _ {mine : List Task} {rows : List Row} {times : List ℕ} {count kept : ℕ} (l : Laid mine rows times count kept) where
  -- as a table they are stored
  pub laid_stored : record { count = count; rows = rows; times = times } ≡ stored mine
  laid_stored = λ k. record { count = l.number k; rows = l.rows_are k; times = l.times_are k }

  -- there are always 1,024 times
  pub times_long : kept ≤ 1024 → length times ≡ 1024
  times_long h = ap length l.times_are ∙ pad-length 0 1024 (all_times mine) (omega (arith, l.total))

  -- one task more, by its row and its times
  module _ (u : Task) (r : Row) (own : List ℕ) (row : r ≡ row_of u) (times-own : own ≡ u.times) where
    -- the row is set behind the rows
    rows_more : count < 64 → set rows count r ≡ pad_to zero_row 64 (rows_of (mine ++ (u ∷ [])))
    rows_more h =
        let at-end : count ≡ length (rows_of mine) = l.number ∙ sym (rows-length mine) in
        rw (l.rows_are, at-end, row, rows_snoc mine u)
        (set-pad zero_row 64 (rows_of mine) (row_of u) (omega arith))

    -- the times are stored behind the times
    times_more : kept + length own ≤ 1024 → sets times kept own ≡ pad_to 0 1024 (all_times (mine ++ (u ∷ [])))
    times_more h =
        let room : length (all_times mine) + length u.times ≤ 1024 = omega (arith, l.total, ap length times-own) in
        rw (l.times_are, l.total, times-own, each_snoc) (sets-pad 0 1024 (all_times mine) u.times room)

    -- and the task lies behind the others
    pub laid_sets : (after : List ℕ) → count < 64 → kept + length own ≤ 1024 → after ≡ sets times kept own
        → Laid (mine ++ (u ∷ [])) (set rows count r) after (count + 1) (kept + r.parts)
    laid_sets after few room e =
        record {
          number = rw length-append (omega (arith, l.number));
          total = rw (each_snoc, length-append) (omega (arith, l.total, ap (λ (x : Row). x.parts) row));
          rows_are = rows_more few;
          times_are = e ∙ times_more room;
        }
