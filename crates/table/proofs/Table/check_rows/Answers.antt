-- `table::Table::check_rows` meets its contract. No row before row i has a fault. Assumes nothing.
use Prim.Native.Nat.{ℕ, ◌+◌, ◌-◌, ◌≤◌, ◌<◌}
use native.Mathlib.Numerals.{add-one}
use native.Mathlib.Omega.{arith}
use mathlib.Core.Path.{◌≡◌, ◌∙◌}
use mathlib.Core.List.{List}
use lib.ListN.{length, get_or, take, drop, drop_of_length-le, length-drop}
use lib.Seq.{drop-cons}
use Rattle.std.specs.Prelude.{Ok}
use Rattle.std.proofs.lemmas.List.{take_rest}
use Rattle.std.proofs.lemmas.Result.{err_from_is_err_and}
use Rattle.table.specs.declared.Row.{Row}
use Rattle.table.specs.Verdicts.{good, judged, ◌or_else◌}
use Rattle.table.specs.Memory.{zero_row}
use Rattle.table.specs.Faults.{row_fault, rows_fault}
use Rattle.table.specs.Promises.{row_fault_at}
use Rattle.table.proofs.Codes.{passed, good-code, first_good, refusal_stays, next_decides}
use Rattle.table.proofs.Heads.{head-found}
use Rattle.table.proofs.Table.check_rows.Goals.{In_ok-judge_row}
use Rattle.table.proofs.Table.check_rows.Goals as goal

-- row i
abbrev row_at : List Row → ℕ → Row
row_at rows i = get_or rows i zero_row

module _ (rows : List Row) (rest : List ℕ) (i : ℕ) where
  -- row i, then the others
  row_first : i < length rows → let r = row_at rows i in
      rows_fault i (1024 - length rest) (drop i rows) rest
      ≡ row_fault_at i r rest or_else rows_fault (i + 1) (1024 - length rest + r.parts) (drop (i + 1) rows) (drop r.parts rest)
  unfolding rows_fault
  row_first h = rw (drop-cons rows i zero_row h, add-one)

  module _ (room : length rest ≤ 1024) {u : Unit {0}} (fine : Ok u ≡ judged (row_fault_at i (row_at rows i) rest)) where
    -- a good row has its times there
    fits : (row_at rows i).parts ≤ length rest
    unfolding row_fault
    fits = omega (arith, (head-found _ i (row_at rows i) (first_good _ _ (good-code _ (passed _ fine)))).room)

    -- and leaves what is behind them to the others
    later : i < length rows → let left = take (length rest - (row_at rows i).parts) (drop (row_at rows i).parts rest) in
        rows_fault i (1024 - length rest) (drop i rows) rest ≡ rows_fault (i + 1) (1024 - length left) (drop (i + 1) rows) left
    later h =
        let used : 1024 - (length rest - (row_at rows i).parts) ≡ 1024 - length rest + (row_at rows i).parts = omega (arith, fits) in
        row_first h ∙ next_decides _ _ fine ∙ rw (take_rest rest (row_at rows i).parts, length-drop, used)

pub loop-i-preserved : goal.loop-i-preserved
loop-i-preserved c =
    let l = c.loop-i.invariant in
    record {
      room = rw (take_rest c.loop-i.rest.now _, length-drop) (omega (arith, l.room));
      same = l.same ∙ later c.used_rows-row-items.result.now c.loop-i.rest.now _ l.room c.in_ok-judge_row.ensures c.loop-i-test.true;
    }

pub slice_bounds-rest-count : goal.slice_bounds-rest-count
slice_bounds-rest-count c = fits c.used_rows-row-items.result.now c.loop-i.rest.now _ c.loop-i.invariant.room c.in_ok-judge_row.ensures

pub slice_bounds-rest-start : goal.slice_bounds-rest-start
slice_bounds-rest-start c = fits c.used_rows-row-items.result.now c.loop-i.rest.now _ c.loop-i.invariant.room c.in_ok-judge_row.ensures

pub returns-in_err-judge_row : goal.returns-in_err-judge_row
returns-in_err-judge_row c =
    let p = err_from_is_err_and c.from_residual.result c.from_residual.ensures.1 in
    let l = c.loop-i.invariant in
    rw (p.1, p.2, ← c.used_rows-row-items.ensures, l.same, row_first _ c.loop-i.rest.now _ c.loop-i-test.true)
    (refusal_stays _ _ c.in_err-judge_row.ensures)

pub returns : goal.returns
unfolding rows_fault judged good
returns c =
    rw (← c.used_rows-row-items.ensures, c.loop-i.invariant.same, drop_of_length-le c.used_rows-row-items.result.now c.loop-i-test.false)
