-- Reading stops only at a fault, with a verdict of reading; the number that it carries is an offset, the length or a row. Assumes nothing.
use Prim.Native.Nat.{ℕ, zero, suc, ◌+◌, ◌≤◌}
use native.Mathlib.Omega.{arith}
use mathlib.Core.Path.{◌≡◌, refl}
use borrow.Author.Tests.{ltb-true}
use mathlib.Core.Bool.{Bool, true, false}
use mathlib.Core.List.{List, [], ◌∷◌, ◌++◌}
use lib.ListN.{length, replicate, length-append}
use lib.Dec.{ltb}
use Rattle.lists.specs.Lists.{pick}
use Rattle.lists.proofs.Tests.{by_test}
use Rattle.numbers.specs.Numbers.{Bytes}
use Rattle.model.specs.Task.{Task}
use Rattle.table.specs.declared.Row.{Row}
use Rattle.table.specs.Rules.{Rule}
use Rattle.table.specs.Rules as R
use Rattle.table.specs.declared.Verdict.{Verdict}
use Rattle.table.specs.declared.Verdict.TheVariants.{Trailing}
use Rattle.table.specs.Verdicts.{number_of, good, ◌or_else◌}
use Rattle.table.specs.Fields.{field, head, time, row_from}
use Rattle.table.specs.Memory.{task_of, all_times, rows_of}
use Rattle.table.specs.Clash.{clash, breaks, rule_verdict, broken, clash_of}
use Rattle.table.proofs.Stored.{rows-length}
use Rattle.table.proofs.ReadingCodes.{clash-reading}
use Rattle.fields.specs.Stepping.{stop, unless, field_at, fields_at, row_by}
use Rattle.fields.proofs.Near.{Stopped, Inside, Near, Any, go_near, then_near, unless_near, field_near, fields_near}
use Rattle.files.specs.Reading.{row_at, rows_at, end_at, decode}

-- a clash carries its row
rule-row : (rule : Rule) (n : ℕ) → number_of (rule_verdict rule n) ≡ n
rule-row R.SameId n = refl
rule-row R.SamePriority n = refl
rule-row R.KindsCrossed n = refl

-- which is one of the rows
broken_small : (rule : Rule) (rows : List Row) → number_of (broken rule rows) ≤ length rows
unfolding broken
broken_small rule rows =
    by_test (ltb (clash (breaks rule) rows) (length rows))
    (λ e. rw (e, rule-row rule (clash (breaks rule) rows)) (omega (arith, ltb-true (clash (breaks rule) rows) (length rows) e)))
    (λ e. rw e (omega arith))

-- so does the first of two faults
or_small : (v w : Verdict) (m : ℕ) → number_of v ≤ m → number_of w ≤ m → number_of (v or_else w) ≤ m
unfolding ◌or_else◌
or_small v w m h k = by_test (good v) (λ e. rw e k) (λ e. rw e h)

-- so is the first clash of the three rules
clash_small : (rows : List Row) → number_of (clash_of rows) ≤ length rows
unfolding clash_of
clash_small rows =
    or_small _ _ (length rows) (broken_small R.SameId rows)
    (or_small _ _ (length rows) (broken_small R.SamePriority rows) (broken_small R.KindsCrossed rows))

module _ (s : List ℕ) where
  -- a row
  row_near : (used at : ℕ) → Inside s at → Near s Any (row_at used s at)
  unfolding row_at row_by
  row_near used at h =
      then_near s Any Any (fields_at (field_at s) (head used) [] at) _ (fields_near s (head used) [] at h)
      (λ fields m k p. then_near s Any Any (fields_at (field_at s) (replicate (row_from fields).parts time) [] m) _ (fields_near s _ [] m k)
      (λ times n l q. go_near s Any (task_of (row_from fields) times) n l tt))

  -- rows one after another
  rows_near : (k : ℕ) (done : List Task) (at : ℕ) → Inside s at → Near s (λ ts. length ts ≡ length done + k) (rows_at k done s at)
  unfolding rows_at
  rows_near zero done at h = go_near s (λ ts. length ts ≡ length done + zero) done at h (omega arith)
  rows_near (suc k) done at h =
      then_near s Any (λ ts. length ts ≡ length done + suc k) (row_at (length (all_times done)) s at) _
      (row_near (length (all_times done)) at h)
      (λ t n l p. more t n (rows_near k (done ++ (t ∷ [])) n l))
    where
      more : (t : Task) (n : ℕ) → Near s (λ ts. length ts ≡ length (done ++ (t ∷ [])) + k) (rows_at k (done ++ (t ∷ [])) s n)
          → Near s (λ ts. length ts ≡ length done + suc k) (rows_at k (done ++ (t ∷ [])) s n)
      more t n near =
          let same : length (done ++ (t ∷ [])) + k ≡ length done + suc k = omega (arith, length-append done (t ∷ [])) in
          rw same at near

  -- the end
  end_near : (ts : List Task) (at : ℕ) → Inside s at → length ts ≤ 64 → Near s Any (end_at s ts at)
  unfolding end_at
  end_near ts at h few = of_test (ltb at (length s))
    where
      of_test : (b : Bool) → Near s Any (pick b (stop (Trailing at)) (unless (clash_of (rows_of ts)) ts at))
      of_test true = unfold Near good in record { fault = record { fault = refl; read = refl }; small = λ bs. omega (arith, h bs) }
      of_test false =
          unless_near s Any (clash_of (rows_of ts)) ts at (clash-reading (rows_of ts))
          (λ bs. omega (arith, clash_small (rows_of ts), rows-length ts)) h (λ g. tt)

  -- the whole file
  file_near : Near s Any (decode s)
  unfolding decode
  file_near =
      then_near s (λ v. v ≤ 64) Any (field_at s (field 0 64) 0) _ (field_near s (field 0 64) 0 (λ bs. omega arith))
      (λ count at h most. then_near s (λ (ts : List Task). length ts ≡ 0 + count) Any (rows_at count [] s at) _ (rows_near count [] at h)
      (λ ts n k all. let few : length ts ≡ 0 + count = all in let m : count ≤ 64 = most in end_near ts n k (omega arith)))

  -- the verdict of a refused file
  pub stopped : (v : Verdict) → decode s ≡ stop v → Stopped s v
  unfolding Near
  stopped v e = rw e at file_near

  -- the number that it carries
  pub carried : Bytes s → (v : Verdict) → decode s ≡ stop v → number_of v ≤ length s + 64
  carried bs v e = (stopped v e).small bs
