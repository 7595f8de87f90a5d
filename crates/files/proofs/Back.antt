-- A file that was read is the one that its tasks are written as, and these are good. Assumes nothing.
use Prim.Native.Nat.{ℕ, zero, suc, ◌+◌, ◌≤◌}
use native.Mathlib.Omega.{arith}
use borrow.Author.Tests.{ltb-false}
use mathlib.Core.Path.{◌≡◌, refl, sym, ap, ◌∙◌}
use mathlib.Core.List.{List, [], ◌∷◌, ◌++◌, append_assoc, append-nil}
use lib.ListN.{length, drop, replicate, drop_of_length-le}
use lib.Dec.{ltb}
use Rattle.lists.specs.Lists.{each}
use Rattle.lists.proofs.Each.{each_snoc_length}
use Rattle.lists.proofs.Tests.{by_test}
use Rattle.numbers.specs.Numbers.{Bytes, encode_all}
use Rattle.model.specs.Task.{Task}
use Rattle.table.specs.declared.Verdict.TheVariants.{Trailing}
use Rattle.table.specs.Verdicts.{code_of}
use Rattle.table.specs.Fields.{field, time}
use Rattle.table.specs.Memory.{all_times, rows_of}
use Rattle.table.specs.Clash.{clash_of}
use Rattle.table.proofs.GoodTasks.{FineTask, FineTasks, GoodTasks}
use Rattle.fields.specs.Stepping.{stop, go, field_at, times_at}
use Rattle.fields.specs.Ways.{Seven}
use Rattle.fields.proofs.RowRead.{TimesReader, row_back}
use Rattle.fields.proofs.TimesRead.{times_fine}
use Rattle.files.specs.Reading.{row_at, rows_at, end_at, decode}
use Rattle.files.specs.Writing.{encode_file}
use Rattle.fields.proofs.Taken.{Between, both_between, stopped_not, passed, then_read, Read, field-read, in_file, taken_all}
use Rattle.files.proofs.RowBytes.{row_bytes, rows_bytes, row-parts, rows_none, rows_more, file-parts}

module _ (s : List ℕ) where
  -- the times of a row in a file
  pub times_in_file : TimesReader s (Bytes s) encode_all (times_at s)
  times_in_file = record {
    fine = times_fine Seven s;
    bytes = λ bs k at ts n some e. (taken_all (in_file s) (replicate k time) at ts n e).bytes bs;
  }

  -- a row that was read
  pub record Row (used at : ℕ) (t : Task) (n : ℕ) : Type 0 where
    pub fine : FineTask used t
    pub bytes : Bytes s → Between s at (row_bytes t) n

  -- so it is where a row was read
  pub row_in-file : (used at : ℕ) (t : Task) (n : ℕ) → row_at used s at ≡ go t n → Row used at t n
  unfolding row_at
  row_in-file used at t n e =
      let r = row_back (in_file s) times_in_file used at t n e in
      record { fine = r.fine; bytes = λ bs. rw (row-parts t) (r.bytes bs) }

  -- rows that were read behind those that are done
  pub record Rows (k at : ℕ) (done all : List Task) (n : ℕ) : Type 0 where
    pub tail : List Task
    pub whole : all ≡ done ++ tail
    pub count : length tail ≡ k
    pub fine : FineTasks (length (all_times done)) tail
    pub bytes : Bytes s → Between s at (rows_bytes tail) n

  -- one row more
  row_more : (k at m n : ℕ) (t : Task) (done all : List Task)
      → Row (length (all_times done)) at t m → Rows k m (done ++ (t ∷ [])) all n → Rows (suc k) at done all n
  unfolding FineTasks
  row_more k at m n t done all f l =
      let before : length (all_times (done ++ (t ∷ []))) ≡ length (all_times done) + length t.times = each_snoc_length _ done t in
      record {
        tail = t ∷ l.tail;
        whole = l.whole ∙ append_assoc done (t ∷ []) l.tail;
        count = ap suc l.count;
        fine = (f.fine, rw before at l.fine);
        bytes = λ bs. rw (rows_more t l.tail) (both_between s at m n (row_bytes t) (rows_bytes l.tail) (f.bytes bs) (l.bytes bs));
      }

  -- and rows one after another
  pub rows_back : (k : ℕ) (done : List Task) (at : ℕ) (all : List Task) (n : ℕ) → rows_at k done s at ≡ go all n → Rows k at done all n
  unfolding rows_at FineTasks
  rows_back zero done at all n e =
      let same : done ≡ all = cc in
      let here : at ≡ n = cc in
      record {
        tail = [];
        whole = sym same ∙ sym (append-nil done);
        count = refl;
        fine = tt;
        bytes = λ bs. rw rows_none (record { stand = ap (λ (p : ℕ). drop p s) here; past = omega arith });
      }
  rows_back (suc k) done at all n e =
      let r = then_read (row_at (length (all_times done)) s at) (λ t m. rows_at k (done ++ (t ∷ [])) s m) all n e in
      row_more k at r.place n r.what done all (row_in-file _ at r.what r.place r.first)
      (rows_back k (done ++ (r.what ∷ [])) r.place all n r.rest)

  -- the end: no byte is left, and no row clashes
  end_back : (ts : List Task) (p : ℕ) (us : List Task) (n : ℕ) → end_at s ts p ≡ go us n
      → (length s ≤ p) × (code_of (clash_of (rows_of ts)) ≡ 0) × (ts ≡ us)
  unfolding end_at
  end_back ts p us n e =
      by_test (ltb p (length s)) (λ t. let f : stop (Trailing p) ≡ go us n = rw t at e in stopped_not _ refl f)
      (λ f. let u = passed (clash_of (rows_of ts)) ts p us n (rw f at e) in (ltb-false p (length s) f, u.fine, u.same))

  -- the whole file
  pub record File (ts : List Task) : Type 0 where
    pub good : GoodTasks ts
    pub bytes : Bytes s → s ≡ encode_file ts

  -- the row count, then the rows, then the end
  file_of_lem : (count at m : ℕ) (ts : List Task) → Read s (field 0 64) 0 count at → Rows count at [] ts m
      → length s ≤ m → code_of (clash_of (rows_of ts)) ≡ 0 → File ts
  file_of_lem count at m ts c r ended apart =
      let all : length ts ≡ count = ap length r.whole ∙ r.count in
      let fine : FineTasks 0 r.tail = unfold each in r.fine in
      let none : drop m s ≡ [] = drop_of_length-le s ended in
      let rows : Bytes s → drop at s ≡ rows_bytes ts = λ bs. (r.bytes bs).stand ∙ rw (none, ← r.whole) (append-nil (rows_bytes ts)) in
      record {
        good = record { few = omega (arith, c.fine.most); fine = rw r.whole fine; apart = apart };
        bytes = λ bs. (c.bytes bs).stand ∙ rw (rows bs, ← all) (sym (file-parts ts));
      }

  -- a file that was read is the one that its tasks are written as
  pub file_back : (ts : List Task) (n : ℕ) → decode s ≡ go ts n → File ts
  unfolding decode
  file_back ts n e =
      let a = then_read (field_at s (field 0 64) 0) _ ts n e in
      let b = then_read (rows_at a.what [] s a.place) _ ts n a.rest in
      let c = end_back b.what b.place ts n b.rest in
      let count = field-read s (field 0 64) 0 a.what a.place a.first in
      let rows = rows_back a.what [] a.place b.what b.place b.first in
      rw (← c.2) (file_of_lem a.what a.place b.place b.what count rows c.0 c.1)
