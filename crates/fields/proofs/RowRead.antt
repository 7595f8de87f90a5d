-- A row read, its fields and then its times, by any way to read them: where reading stops, and what was read. Assumes nothing.
use Prim.Native.Nat.{ℕ, ◌≤◌}
use mathlib.Core.Path.{◌≡◌, ◌∙◌}
use mathlib.Core.List.{List, [], ◌++◌}
use lib.ListN.{length, replicate, length-replicate}
use Rattle.std.specs.Prelude.{Ok, Err}
use Rattle.lists.specs.Lists.{each}
use Rattle.model.specs.Task.{Task}
use Rattle.table.specs.declared.Row.{Row}
use Rattle.table.specs.declared.Verdict.{Verdict}
use Rattle.table.specs.declared.Wanted.{Wanted}
use Rattle.table.specs.Fields.{head, time, row_from, fields_of}
use Rattle.table.specs.Memory.{row_of, task_of}
use Rattle.table.proofs.Fine.{AllFine}
use Rattle.table.proofs.Seven.{all-length, seven}
use Rattle.table.proofs.GoodTasks.{FineTask}
use Rattle.fields.specs.Stepping.{Step, stop, go, ◌then◌, fields_at, row_by}
use Rattle.fields.proofs.Taken.{Reader, Between, both_between, then_read, taken_all, head_read}
use Rattle.fields.specs.Promises.{as_row}
use Rattle.fields.proofs.HeadRead.{got_head, refused-head}

-- ---- step by step

module _ (one : Wanted → ℕ → Step ℕ) (times : ℕ → ℕ → Step (List ℕ)) (used at : ℕ) where
  -- its fields are refused
  pub row-fields_stop : (v : Verdict) → Err v ≡ as_row (fields_at one (head used) [] at) → row_by one times used at ≡ stop v
  unfolding row_by ◌then◌
  row-fields_stop v e = rw (refused-head _ v e)

  module _ (row : Row) (n : ℕ) (e : Ok (record { value = row; next = n }) ≡ as_row (fields_at one (head used) [] at)) where
    -- its times follow its fields
    row_step : row_by one times used at ≡ (times row.parts n then λ ts m. go (task_of row ts) m)
    unfolding row_by ◌then◌
    row_step = let g = got_head _ _ e in of g.fields g.first g.is
      where
        of : (fields : List ℕ) → fields_at one (head used) [] at ≡ go fields n → row_from fields ≡ row
            → row_by one times used at ≡ (times row.parts n then λ ts m. go (task_of row ts) m)
        of fields first is = rw (first, ← is)

    -- they are refused
    pub row-times_stop : (v : Verdict) → times row.parts n ≡ stop v → row_by one times used at ≡ stop v
    unfolding ◌then◌
    row-times_stop v f = row_step ∙ rw f

    -- they are read
    pub row_more : (ts : List ℕ) (m : ℕ) → times row.parts n ≡ go ts m → row_by one times used at ≡ go (task_of row ts) m
    unfolding ◌then◌
    row_more ts m f = row_step ∙ rw f

-- ---- what was read

-- a row that was read: its fields, then its times
pub record RowPieces (one : Wanted → ℕ → Step ℕ) (times : ℕ → ℕ → Step (List ℕ)) (used at : ℕ) (t : Task) (n : ℕ) : Type 0 where
  pub fields : List ℕ
  pub mid : ℕ
  pub own : List ℕ
  pub first : fields_at one (head used) [] at ≡ go fields mid
  pub then_times : times (row_from fields).parts mid ≡ go own n
  pub whole : t ≡ task_of (row_from fields) own

-- so it is where a row was read
pub row_pieces : (one : Wanted → ℕ → Step ℕ) (times : ℕ → ℕ → Step (List ℕ)) (used at : ℕ) (t : Task) (n : ℕ)
    → row_by one times used at ≡ go t n → RowPieces one times used at t n
unfolding row_by
row_pieces one times used at t n e =
    let a = then_read (fields_at one (head used) [] at) _ t n e in
    let b = then_read (times (row_from a.what).parts a.place) _ t n a.rest in
    of a.what a.place b.what b.place a.first b.first b.rest
  where
    of : (fields : List ℕ) (m : ℕ) (ts : List ℕ) (p : ℕ) → fields_at one (head used) [] at ≡ go fields m
        → times (row_from fields).parts m ≡ go ts p → go (task_of (row_from fields) ts) p ≡ go t n → RowPieces one times used at t n
    of fields m ts p e f g =
        let here : p ≡ n = cc in
        record { fields = fields; mid = m; own = ts; first = e; then_times = rw here at f; whole = cc }

-- a way to read the times of a row: they are what they may be, and where `plain` holds they stand there in their form
pub record TimesReader (s : List ℕ) (plain : Type 0) (form : List ℕ → List ℕ) (times : ℕ → ℕ → Step (List ℕ)) : Type 0 where
  pub fine : (k at : ℕ) (ts : List ℕ) (n : ℕ) → 1 ≤ k → times k at ≡ go ts n → AllFine (replicate k time) ts
  pub bytes : plain → (k at : ℕ) (ts : List ℕ) (n : ℕ) → 1 ≤ k → times k at ≡ go ts n → Between s at (form ts) n

module _ {s : List ℕ} {plain : Type 0} {form : ℕ → List ℕ} {form_all : List ℕ → List ℕ} {one : Wanted → ℕ → Step ℕ}
    {times : ℕ → ℕ → Step (List ℕ)} (reader : Reader s plain form one) (last : TimesReader s plain form_all times) where
  -- a row that was read
  pub record RowRead (used at : ℕ) (t : Task) (n : ℕ) : Type 0 where
    pub fine : FineTask used t
    pub bytes : plain → Between s at (each form (fields_of (row_of t)) ++ form_all t.times) n

  -- its seven fields, then as many times as it has parts
  row_of_lem : (used at m n : ℕ) (fields ts : List ℕ) → fields_at one (head used) [] at ≡ go fields m
      → times (row_from fields).parts m ≡ go ts n → RowRead used at (task_of (row_from fields) ts) n
  row_of_lem used at m n fields ts e f =
      let own = taken_all reader (head used) at fields m e in
      let some = (head_read reader used at fields m e).parts.least in
      let fine = last.fine _ m ts n some f in
      let count : length ts ≡ (row_from fields).parts = all-length _ ts fine ∙ length-replicate (row_from fields).parts time in
      let same : fields_of (row_of (task_of (row_from fields) ts)) ≡ fields = rw count (seven used fields own.fine) in
      record {
        fine = record { fields = rw same own.fine; times = rw count fine };
        bytes = λ p. rw same (both_between s at m n (each form fields) (form_all ts) (own.bytes p) (last.bytes p _ m ts n some f));
      }

  -- so it is where a row was read
  pub row_back : (used at : ℕ) (t : Task) (n : ℕ) → row_by one times used at ≡ go t n → RowRead used at t n
  row_back used at t n e =
      let r = row_pieces one times used at t n e in
      rw r.whole (row_of_lem used at r.mid n r.fields r.own r.first r.then_times)
