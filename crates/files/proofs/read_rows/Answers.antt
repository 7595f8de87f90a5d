-- `files::read_rows` meets its contract. The invariant: some rows are done, the others are still to be read. Assumes nothing.
use Prim.Native.Nat.{ℕ, ◌+◌, ◌-◌, ◌≤◌, ◌<◌}
use native.Mathlib.Omega.{arith}
use mathlib.Core.Path.{◌≡◌, ◌∙◌}
use mathlib.Core.List.{List, [], ◌∷◌, ◌++◌}
use lib.ListN.{length, length-append}
use Rattle.std.specs.Prelude.{Ok}
use Rattle.std.proofs.lemmas.Result.{err_from_is_err_and}
use Rattle.model.specs.Task.{Task}
use Rattle.table.specs.declared.Table.{Table}
use Rattle.table.specs.declared.Verdict.{Verdict}
use Rattle.table.specs.Memory.{all_times}
use Rattle.fields.specs.Stepping.{Step, stop, go}
use Rattle.fields.specs.Ways.{Seven, row_in}
use Rattle.fields.specs.Promises.{Grows}
use Rattle.files.specs.Reading.{row_at, rows_at}
use Rattle.files.proofs.Steps.{rows_more, rows_stop}
use Rattle.files.proofs.read_rows.Invariants.{Reading}
use Rattle.files.proofs.read_rows.Goals as goal

module _ {s : List ℕ} {at n : ℕ} {table : Table} {used p i : ℕ} (l : Reading s at n table used p i) where
  -- after the last row
  ends : n ≤ i → i ≤ n → rows_at n [] s at ≡ go l.done p
  unfolding rows_at
  ends h k = let none : n - i ≡ 0 = omega arith in l.same ∙ rw none

  -- a row is left, after those that are done
  module _ (some : i < n) where
    -- as the definition has it
    here : {x : Step Task} → row_in Seven s used p ≡ x → row_at (length (all_times l.done)) s p ≡ x
    unfolding row_at
    here e = rw l.far.total at e

    -- it is refused
    stops : (v : Verdict) → row_in Seven s used p ≡ stop v → rows_at n [] s at ≡ stop v
    stops v e = l.same ∙ rows_stop (n - i) l.done s p (omega arith) v (here e)

    -- it is read: one row more
    turn : {q used' : ℕ} {table' : Table} → Grows (row_in Seven s used p) l.done (Ok q) table' used'
        → Reading s at n table' used' q (i + 1)
    turn {q} g =
        let left : n - i - 1 ≡ n - (i + 1) = omega arith in
        record {
          done = l.done ++ (g.0 ∷ []);
          far = g.2;
          number = omega (arith, length-append l.done (g.0 ∷ []), l.number);
          same = l.same ∙ rows_more (n - i) l.done s p (omega arith) g.0 q (here g.1) ∙ rw left;
        }

pub returns-in_err-p : goal.returns-in_err-p
returns-in_err-p c =
    let e = err_from_is_err_and c.from_residual.result c.from_residual.ensures.1 in
    let l = c.loop.invariant in
    rw (e.1, e.2, stops l c.loop-test.true _ (c.in_err-p.ensures l.done l.far))

pub loop-preserved : goal.loop-preserved
loop-preserved c = turn c.loop.invariant c.loop-test.true (c.in_ok-p.ensures c.loop.invariant.done c.loop.invariant.far)

pub returns : goal.returns
returns c =
    let l = c.loop.invariant in
    rw (ends l c.loop-test.false c.loop.auto.counter-end, ← l.far.is)
