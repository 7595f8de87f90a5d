-- `comma::load` meets its contract. The invariant: some lines are done, the others are still to be read. Assumes nothing.
use Prim.Native.Nat.{ℕ, ◌-◌, ◌≤◌, ◌<◌}
use native.Mathlib.Omega.{arith}
use mathlib.Core.Path.{◌≡◌, refl, ap, ◌∙◌}
use mathlib.Core.List.{List, [], ◌∷◌, ◌++◌}
use lib.ListN.{length, length-append}
use Rattle.std.specs.Prelude.{Ok, Err}
use Rattle.std.proofs.lemmas.Result.{err_from_is_err_and}
use Rattle.lists.proofs.PadStores.{pad-length}
use Rattle.model.specs.Task.{Task}
use Rattle.table.specs.declared.Table.{Table}
use Rattle.table.specs.declared.Verdict.{Verdict}
use Rattle.table.specs.declared.Verdict.TheVariants.{OutOfRange}
use Rattle.table.specs.Verdicts.{code_of, judged}
use Rattle.table.specs.Memory.{zero_row, all_times, used_rows, rows_of}
use Rattle.table.specs.Clash.{clash_of}
use Rattle.table.specs.Faults.{fault_of}
use Rattle.table.proofs.Codes.{good-code, passed}
use Rattle.table.proofs.Stored.{rows-length, stored-rows}
use Rattle.table.proofs.GoodTasks.{stored-good}
use Rattle.fields.specs.Stepping.{Step, stop, go, unless}
use Rattle.fields.specs.Ways.{Commas, row_in}
use Rattle.fields.specs.Promises.{Grows}
use Rattle.fields.proofs.Steps.{unless_refused, unless_passed}
use Rattle.comma.specs.Reading.{line_at, decode_text}
use Rattle.comma.proofs.LinesSteps.{lines_end, lines_over, lines_more, lines_stop, text_stops, text_ends}
use Rattle.comma.proofs.LinesBack.{text_back}
use Rattle.comma.proofs.load.Invariants.{Reading}
use Rattle.comma.proofs.load.Goals as goal

module _ {s : List ℕ} {table : Table} {used p : ℕ} (l : Reading s table used p) where
  -- as many rows as lines that were read
  count : table.count ≡ length l.done
  count = ap (λ (t : Table). t.count) l.far.is

  -- it has as many rows as its type says
  rows_long : length table.rows ≡ 64
  rows_long =
      ap (λ (t : Table). length t.rows) l.far.is
      ∙ pad-length zero_row 64 (rows_of l.done) (omega (arith, rows-length l.done, l.far.few))

  -- and as many times
  times_long : length table.times ≡ 1024
  times_long = ap (λ (t : Table). length t.times) l.far.is ∙ pad-length 0 1024 (all_times l.done) (omega (arith, l.far.total, l.far.room))

  -- at the text's end
  module _ (past : length s ≤ p) where
    -- the rules decide
    ends : {x : Step (List Task)} → unless (clash_of (rows_of l.done)) l.done p ≡ x → decode_text s ≡ x
    ends e = text_ends s (l.same ∙ lines_end l.done s p _ past) ∙ e

    -- rows clash
    clashes : {v : Verdict} → Err v ≡ judged (clash_of (used_rows table)) → decode_text s ≡ stop v
    clashes e = ends (unless_refused _ l.done p (rw (l.far.is, stored-rows) at e))

    -- none do
    goes : {u : Unit {0}} → Ok u ≡ judged (clash_of (used_rows table)) → decode_text s ≡ go l.done p
    goes e = ends (unless_passed _ l.done p (rw (l.far.is, stored-rows) at e))

    -- so nothing stands against the table
    faultless : {u : Unit {0}} → Ok u ≡ judged (clash_of (used_rows table)) → code_of (fault_of table) ≡ 0
    faultless e =
        let back = text_back s l.done p (l.same ∙ lines_end l.done s p _ past) in
        let apart = good-code _ (passed _ (rw (l.far.is, stored-rows) at e)) in
        rw l.far.is (stored-good l.done (record { few = back.few; fine = back.fine; apart = apart }))

  module _ (some : p < length s) where
    -- line 65
    over : table.count ≡ 64 → decode_text s ≡ stop (OutOfRange p)
    over e =
        let none : 64 - length l.done ≡ 0 = omega (arith, count) in
        text_stops s (l.same ∙ rw none (lines_over l.done s p some))

    module _ (below : table.count ≡ 64 → ⊥) where
      -- a line is left
      left : table.count < 64
      left = omega (arith, l.far.few, count, below)

      -- as the definition has it
      here : {x : Step Task} → row_in Commas s used p ≡ x → line_at (length (all_times l.done)) s p ≡ x
      unfolding line_at
      here e = rw l.far.total at e

      -- it is refused
      stops : (v : Verdict) → row_in Commas s used p ≡ stop v → decode_text s ≡ stop v
      stops v e = text_stops s (l.same ∙ lines_stop l.done s p some _ (omega (arith, left, count)) v (here e))

      -- it is read: one line more
      turn : {q used' : ℕ} {table' : Table} → Grows (row_in Commas s used p) l.done (Ok q) table' used' → Reading s table' used' q
      turn {q} g =
          let rest : 64 - length l.done - 1 ≡ 64 - length (l.done ++ (g.0 ∷ [])) = rw length-append (omega arith) in
          record {
            done = l.done ++ (g.0 ∷ []);
            far = g.2;
            same = l.same ∙ lines_more l.done s p some _ (omega (arith, left, count)) g.0 q (here g.1) ∙ rw rest;
          }

pub returns-then-growing-eq64 : goal.returns-then-growing-eq64
returns-then-growing-eq64 c = rw (over c.loop-p.invariant c.loop-p-test.true c.if-growing-eq64.true) refl

pub returns-in_err-p : goal.returns-in_err-p
returns-in_err-p c =
    let e = err_from_is_err_and c.from_residual.result c.from_residual.ensures.1 in
    let l = c.loop-p.invariant in
    rw (e.1, e.2, stops l c.loop-p-test.true c.if-growing-eq64.false _ (c.in_err-p.ensures l.done l.far)) refl

pub loop-p-preserved : goal.loop-p-preserved
loop-p-preserved c =
    let l = c.loop-p.invariant in
    turn l c.loop-p-test.true c.if-growing-eq64.false (c.in_ok-p.ensures l.done l.far)

pub returns-in_err-check_clashes : goal.returns-in_err-check_clashes
returns-in_err-check_clashes c =
    let e = err_from_is_err_and c.from_residual-in_err-check_clashes.result c.from_residual-in_err-check_clashes.ensures.1 in
    rw (e.1, e.2, clashes c.loop-p.invariant c.loop-p-test.false c.in_err-check_clashes.ensures) refl

pub invariant_of-result : goal.invariant_of-result
invariant_of-result c =
    let l = c.loop-p.invariant in
    record {
      good = faultless l c.loop-p-test.false c.in_ok-check_clashes.ensures;
      all_rows = rows_long l;
      all_times = times_long l;
    }

pub returns : goal.returns
returns c =
    let l = c.loop-p.invariant in
    rw (goes l c.loop-p-test.false c.in_ok-check_clashes.ensures) (_, refl, l.far.is)
