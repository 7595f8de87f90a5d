-- `files::file_numbers` meets its contract. The invariant: the numbers so far and those of the rows ahead are the whole. Assumes nothing.
use Prim.Native.Nat.{ℕ, ◌+◌, ◌*◌, ◌≤◌}
use native.Mathlib.Omega.{arith}
use mathlib.Core.Path.{◌≡◌, sym, ap, ◌∙◌}
use mathlib.Core.List.{List, [], ◌∷◌, ◌++◌, append_assoc, append-nil}
use lib.ListN.{length, get_or, take, drop, length-append}
use Rattle.lists.specs.Lists.{each}
use Rattle.model.specs.Task.{Task}
use Rattle.table.specs.declared.GoodTable.{GoodTable}
use Rattle.table.specs.declared.Row.{Row}
use Rattle.table.specs.declared.Table.{Table}
use Rattle.table.specs.Fields.{fields_of}
use Rattle.table.specs.Memory.{zero_row, all_times, used_rows, tasks_of}
use Rattle.table.proofs.Stored.{tasks-length}
use Rattle.table.proofs.GoodTasks.{GoodTasks, times_fit, tasks-good}
use Rattle.table.proofs.Walk.{Next, next, none_left, all_left}
use Rattle.files.specs.Writing.{row_numbers, file_numbers}
use Rattle.files.proofs.file_numbers.Invariants.{Listing}
use Rattle.files.proofs.file_numbers.Goals.{In-loop-row, After-unwrap}
use Rattle.files.proofs.file_numbers.Goals as goal

-- seven numbers for each row, and its times
rows-count : (ts : List Task) → length (each row_numbers ts) ≡ 7 * length ts + length (all_times ts)
unfolding each row_numbers
rows-count [] = omega arith
rows-count (t ∷ ts) =
    omega (arith, length-append t.times (each row_numbers ts), length-append t.times (all_times ts), rows-count ts)

-- so there are at most 1,473
short : (ts : List Task) → GoodTasks ts → length (file_numbers ts) ≤ 1473
unfolding file_numbers
short ts g = omega (arith, rows-count ts, g.few, times_fit 0 ts (omega arith) g.fine)

-- from the row count on
starts : (t : GoodTable) → Listing t.table (used_rows t.table) (length (used_rows t.table) ∷ []) t.table.times 0
unfolding file_numbers tasks_of
starts t =
    record {
      tasks = tasks_of t.table;
      left = all_left t;
      short = short _ (tasks-good t.table t.all_rows t.all_times t.good);
      whole = rw (tasks-length (used_rows t.table) t.table.times);
    }

module _ {t : Table} {rows : List Row} {numbers times : List ℕ} {i : ℕ} (l : Listing t rows numbers times i) where
  -- after the last row
  ends : length rows ≤ i → numbers ≡ file_numbers (tasks_of t)
  unfolding each
  ends h = sym (l.whole ∙ rw (none_left l.tasks l.left h) (append-nil numbers))

  -- the next row
  module _ (n : Next rows times i l.tasks) where
    -- its numbers, as the code has them
    own : fields_of (get_or rows i zero_row) ++ take (get_or rows i zero_row).parts times ≡ row_numbers n.task
    unfolding row_numbers
    own = ap (◌++◌ (fields_of (get_or rows i zero_row))) n.own ∙ rw n.row

    -- with them
    more : file_numbers (tasks_of t) ≡ numbers ++ (row_numbers n.task ++ each row_numbers n.others)
    unfolding each
    more = rw n.first at l.whole

    -- they have room
    fits : length numbers + (7 + length (take (get_or rows i zero_row).parts times)) ≤ 1473
    fits =
        omega (
          arith,
          l.short,
          ap length more,
          length-append numbers (row_numbers n.task ++ each row_numbers n.others),
          length-append (row_numbers n.task) (each row_numbers n.others),
          ap length own,
        )

    -- one row more
    turn : (new : List ℕ) → new ≡ (numbers ++ fields_of (get_or rows i zero_row)) ++ take (get_or rows i zero_row).parts times
        → Listing t rows new (drop (get_or rows i zero_row).parts times) (i + 1)
    turn new e =
        let all : new ≡ numbers ++ row_numbers n.task = e ∙ append_assoc numbers _ _ ∙ ap (◌++◌ numbers) own in
        record { tasks = n.others; left = n.left; short = l.short; whole = more ∙ rw (all, append_assoc) }

-- the next row, where the code is at it
here : (c : In-loop-row) → let l = c.loop-row in Next c.used_rows-rows.result.now l.rest.now l.row-index l.invariant.tasks
here c = next c.loop-row.invariant.tasks c.loop-row.invariant.left c.loop-row-test.true

-- its fields are put
fields_put : (c : After-unwrap) → let l = c.loop-row in
    c.try_extend_from_slice.new.self.items ≡ l.numbers.items ++ fields_of (get_or c.used_rows-rows.result.now l.row-index zero_row)
fields_put c = rw c.unwrap.ensures at c.try_extend_from_slice.ensures.ok ∙ rw c.from.ensures

pub loop-row-init : goal.loop-row-init
loop-row-init c = rw (c.push.ensures.items, c.new-numbers.ensures, c.used_rows-rows.ensures) (starts c.args.t.now)

pub split_at-requires : goal.split_at-requires
split_at-requires c = (here (goal.at.split_at-requires c).In-loop-row).room

pub unwrap-requires : goal.unwrap-requires
unwrap-requires c =
    let n = here (goal.at.unwrap-requires c).In-loop-row in
    c.try_extend_from_slice.ensures.variant.1 (rw c.from.ensures (omega (arith, fits c.loop-row.invariant n)))

pub unwrap-requires-in-loop-row : goal.unwrap-requires-in-loop-row
unwrap-requires-in-loop-row c =
    let at = goal.at.unwrap-requires-in-loop-row c in
    let n = here at.In-loop-row in
    c.try_extend_from_slice-in-loop-row.ensures.variant.1
    (rw (fields_put at.After-unwrap, c.split_at.ensures.front, length-append) (omega (arith, fits c.loop-row.invariant n)))

pub loop-row-preserved : goal.loop-row-preserved
loop-row-preserved c =
    let at = goal.at.loop-row-preserved c in
    let put = rw c.unwrap-in-loop-row.ensures at c.try_extend_from_slice-in-loop-row.ensures.ok in
    rw c.split_at.ensures.back
    (turn c.loop-row.invariant (here at.In-loop-row) _ (put ∙ rw (fields_put at.After-unwrap, c.split_at.ensures.front)))

pub returns : goal.returns
returns c = ends c.loop-row.invariant c.loop-row-test.false
