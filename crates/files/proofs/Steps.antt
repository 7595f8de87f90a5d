-- Laws of reading rows step by step and of a check's answer, for the proofs of the code that reads and writes. Assumes nothing.
use Prim.Native.Nat.{ℕ, zero, suc, ◌-◌, ◌<◌}
use native.Mathlib.Numerals.{sub-one}
use native.Mathlib.Omega.{arith}
use mathlib.Core.Path.{◌≡◌, refl, sym, ap, ◌∙◌}
use mathlib.Core.List.{List, [], ◌∷◌, ◌++◌}
use lib.ListN.{length}
use Rattle.std.specs.Prelude.{Result, Err}
use Rattle.lists.proofs.Tests.{by_test, never}
use Rattle.model.specs.Task.{Task}
use Rattle.table.specs.declared.GoodTable.{GoodTable}
use Rattle.table.specs.declared.Verdict.{Verdict}
use Rattle.table.specs.Verdicts.{code_of, good, judged}
use Rattle.table.specs.Written.{none_written, Writes}
use Rattle.table.proofs.Codes.{is_good, refused}
use Rattle.table.proofs.Writes.{refuses_fault}
use Rattle.table.specs.Memory.{all_times, rows_of, stored}
use Rattle.table.specs.Clash.{clash_of}
use Rattle.table.proofs.Stored.{stored-rows}
use Rattle.fields.specs.Stepping.{Step, stop, go, ◌then◌, unless}
use Rattle.files.specs.Reading.{row_at, rows_at, loaded, Loads}
use Rattle.files.specs.Promises.{loaded_by, answer_with}

-- one row more, or none
module _ (k : ℕ) (done : List Task) (s : List ℕ) (p : ℕ) (some : 0 < k) where
  -- a row, then the others
  rows_step : rows_at k done s p ≡ row_at (length (all_times done)) s p then λ task at. rows_at (k - 1) (done ++ (task ∷ [])) s at
  unfolding rows_at
  rows_step = by k some
    where
      by : (m : ℕ) → 0 < m
          → rows_at m done s p ≡ row_at (length (all_times done)) s p then λ task at. rows_at (m - 1) (done ++ (task ∷ [])) s at
      by zero h = absurd (omega arith)
      by (suc m) h = rw sub-one

  -- the row is read
  pub rows_more : (task : Task) (q : ℕ) → row_at (length (all_times done)) s p ≡ go task q
      → rows_at k done s p ≡ rows_at (k - 1) (done ++ (task ∷ [])) s q
  unfolding ◌then◌
  rows_more task q e = rows_step ∙ rw e

  -- the row is refused
  pub rows_stop : (v : Verdict) → row_at (length (all_times done)) s p ≡ stop v → rows_at k done s p ≡ stop v
  unfolding ◌then◌
  rows_stop v e = rows_step ∙ rw e

-- what reading gives, as the verdict and the table
pub loads_loaded : (x : Step (List Task)) (r : Result GoodTable Verdict) → Loads x r → loaded_by r ≡ loaded x
loads_loaded (stop v) r e = ap loaded_by e
loads_loaded (go tasks n) r l = rw (l.1, l.2)

-- the answer with stored tasks is what the definition says after the last row
pub answer-stored : (ts : List Task) (at : ℕ) → answer_with (stored ts) ≡ loaded (unless (clash_of (rows_of ts)) ts at)
unfolding answer_with unless
answer-stored ts at = rw (stored-rows ts) (by_test (good (clash_of (rows_of ts))) (λ e. rw e) (λ e. rw e))

-- where a check refuses, nothing is written
pub writes_refused : (fault : Verdict) (new out : List ℕ) {v : Verdict} → judged fault ≡ Err v → Writes fault new out (none_written v) out
writes_refused fault new out {v} e =
    let f = refused fault (sym e) in
    refuses_fault fault new out v _ f.1 refl (λ g. never (is_good fault (sym (ap code_of f.1) ∙ g)) f.0)
