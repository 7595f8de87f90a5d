-- `comma::lines_of` meets its contract. The invariant: the lines so far and those of the rows ahead are the whole. Assumes nothing.
use Prim.Native.Nat.{ℕ, ◌+◌, ◌≤◌}
use native.Mathlib.Omega.{arith}
use mathlib.Core.Path.{◌≡◌, refl, sym, ap, ◌∙◌}
use mathlib.Core.List.{List, [], ◌++◌, append_assoc, append-nil}
use lib.ListN.{length, get_or, take, drop, length-append}
use Rattle.model.specs.Task.{parts}
use Rattle.text.specs.Promises.{Fits}
use Rattle.table.specs.declared.GoodTable.{GoodTable}
use Rattle.table.specs.declared.Row.{Row}
use Rattle.table.specs.declared.Table.{Table}
use Rattle.table.specs.Memory.{zero_row, used_rows, tasks_of}
use Rattle.table.proofs.GoodTasks.{tasks-good}
use Rattle.table.proofs.Walk.{Next, next, none_left, all_left}
use Rattle.comma.specs.Writing.{line_of, lines_of}
use Rattle.comma.specs.Promises.{line_text}
use Rattle.comma.proofs.LineBytes.{lines_none, lines_more}
use Rattle.comma.proofs.LinePuts.{line_of_lem}
use Rattle.comma.proofs.Sizes.{text_short}
use Rattle.comma.proofs.lines_of.Invariants.{Listing}
use Rattle.comma.proofs.lines_of.Goals.{In-loop-row}
use Rattle.comma.proofs.lines_of.Goals as goal

-- from the first row on
starts : (t : GoodTable) → Listing t.table (used_rows t.table) [] t.table.times 0
starts t =
    let good = tasks-good t.table t.all_rows t.all_times t.good in
    record { tasks = tasks_of t.table; left = all_left t; short = text_short (tasks_of t.table) good; whole = refl }

module _ {t : Table} {rows : List Row} {lines times : List ℕ} {i : ℕ} (l : Listing t rows lines times i) where
  -- after the last row
  ends : length rows ≤ i → lines ≡ lines_of (tasks_of t)
  ends h = sym (l.whole ∙ rw (none_left l.tasks l.left h, lines_none) (append-nil lines))

  -- the next row
  module _ (n : Next rows times i l.tasks) where
    -- its line, as the code has it
    own : line_text (get_or rows i zero_row) (take (get_or rows i zero_row).parts times) ≡ line_of n.task
    own = ap (line_text (get_or rows i zero_row)) n.own ∙ rw n.row (line_of_lem n.task)

    -- with it
    more : lines_of (tasks_of t) ≡ lines ++ (line_of n.task ++ lines_of n.others)
    more = l.whole ∙ rw (n.first, lines_more n.task n.others)

    -- it has room
    fits : Fits (line_text (get_or rows i zero_row) (take (get_or rows i zero_row).parts times)) lines 11520
    fits =
        record {
          room =
              omega (
                arith,
                l.short,
                ap length more,
                length-append lines (line_of n.task ++ lines_of n.others),
                length-append (line_of n.task) (lines_of n.others),
                ap length own,
              );
        }

    -- it has a time
    some : 1 ≤ length (take (get_or rows i zero_row).parts times)
    unfolding parts
    some = omega (arith, ap length n.own, n.good.count.least)

    -- one row more
    turn : Listing t rows (lines ++ line_text (get_or rows i zero_row) (take (get_or rows i zero_row).parts times))
        (drop (get_or rows i zero_row).parts times) (i + 1)
    turn = record { tasks = n.others; left = n.left; short = l.short; whole = more ∙ rw (own, append_assoc) }

-- the next row, where the code is at it
here : (c : In-loop-row) → let l = c.loop-row in Next c.used_rows-row-items.result.now l.rest.now l.row-index l.invariant.tasks
here c = next c.loop-row.invariant.tasks c.loop-row.invariant.left c.loop-row-test.true

pub loop-row-init : goal.loop-row-init
loop-row-init c = rw (c.new-lines.ensures, c.used_rows-row-items.ensures) (starts c.args.t.now)

pub split_at-requires : goal.split_at-requires
split_at-requires c = (here (goal.at.split_at-requires c).In-loop-row).room

pub put_line-requires-clause-some : goal.put_line-requires-clause-some
put_line-requires-clause-some c =
    rw c.split_at.ensures.front (some c.loop-row.invariant (here (goal.at.put_line-requires-clause-some c).In-loop-row))

pub put_line-requires-clause-room : goal.put_line-requires-clause-room
put_line-requires-clause-room c =
    rw c.split_at.ensures.front (fits c.loop-row.invariant (here (goal.at.put_line-requires-clause-room c).In-loop-row))

pub loop-row-preserved : goal.loop-row-preserved
loop-row-preserved c =
    rw (c.put_line.ensures, c.split_at.ensures.front, c.split_at.ensures.back)
    (turn c.loop-row.invariant (here (goal.at.loop-row-preserved c).In-loop-row))

pub returns : goal.returns
returns c = ends c.loop-row.invariant c.loop-row-test.false
