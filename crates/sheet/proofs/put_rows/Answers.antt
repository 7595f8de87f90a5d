-- `crate::put_rows` meets its contract: row by row, each with its own bounds. Assumes nothing.
use Prim.Native.Nat.{ℕ, ◌+◌, ◌-◌, ◌≤◌, ◌<◌}
use native.Mathlib.Omega.{arith}
use mathlib.Core.Path.{◌≡◌, refl, ap, ◌∙◌}
use mathlib.Core.List.{List, ◌∷◌, ◌++◌}
use lib.ListN.{length, get_or, take, drop, drop_of_length-le}
use Rattle.std.proofs.lemmas.List.{drop_more, length-drop}
use Rattle.lists.specs.Lists.{total}
use Rattle.table.specs.declared.Row.{Row}
use Rattle.table.specs.Memory.{zero_row, parts_in}
use Rattle.text.specs.Promises.{Fits}
use Rattle.sheet.specs.Promises.{row_text, rows_text}
use Rattle.text.proofs.Fitting.{room, turn, ends}
use Rattle.sheet.proofs.put_rows.Invariants.{Rows}
use Rattle.sheet.proofs.put_rows.Goals as goal

-- of the rows from row i on, that row is the first
first_of : {core : ℕ} {whole before written bounds : List ℕ} (rows : List Row) (i : ℕ) → Rows core whole before written (drop i rows) bounds
    → i < length rows → Rows core whole before written (get_or rows i zero_row ∷ drop (i + 1) rows) bounds
first_of rows i k h = rw (drop_more rows i zero_row h) at k

module _ {core : ℕ} {whole before written : List ℕ} {r : Row} {others : List Row} {bounds : List ℕ}
    (k : Rows core whole before written (r ∷ others) bounds) where
  -- there are bounds for it and for the others
  enough-both : r.parts + parts_in others ≤ length bounds
  unfolding total
  enough-both = k.enough

  module _ {its : List ℕ} (front : its ≡ take r.parts bounds) where
    -- its lines, then those of the others
    cut : rows_text core (r ∷ others) bounds ≡ row_text core r its ++ rows_text core others (drop r.parts bounds)
    unfolding rows_text
    cut = rw front refl

    -- its lines have room
    fits : {n : ℕ} → Fits whole before n → Fits (row_text core r its) written n
    fits = room k.putting _ _ cut

    -- and once they are put, the others are left
    step : {written' rest : List ℕ} → written' ≡ written ++ row_text core r its → rest ≡ drop r.parts bounds
        → Rows core whole before written' others rest
    step {written'} {rest} put behind =
        let left : length rest ≡ length bounds - r.parts = ap length behind ∙ length-drop r.parts bounds in
        record {
          enough = omega (arith, enough-both, left);
          most = omega (arith, k.most, left);
          putting = rw behind (turn k.putting _ _ cut put);
        }

pub split_at-requires : goal.split_at-requires
split_at-requires c = omega (arith, enough-both (first_of _ _ c.loop-row.invariant c.loop-row-test.true))

pub put_lines-requires-clause-room : goal.put_lines-requires-clause-room
put_lines-requires-clause-room c = fits (first_of _ _ c.loop-row.invariant c.loop-row-test.true) c.split_at.ensures.front c.requires.room

pub loop-row-preserved : goal.loop-row-preserved
loop-row-preserved c =
    step (first_of _ _ c.loop-row.invariant c.loop-row-test.true) c.split_at.ensures.front c.put_lines.ensures c.split_at.ensures.back

pub returns : goal.returns
unfolding rows_text
returns c = ends c.loop-row.invariant.putting (rw (drop_of_length-le _ c.loop-row-test.false) refl)
