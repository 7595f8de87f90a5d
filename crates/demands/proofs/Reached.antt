-- How far reading gets, said without the reader, is how far the reader gets. Assumes nothing.
use Prim.Native.Nat.{ℕ, zero, suc}
use mathlib.Core.Path.{◌≡◌, ◌∙◌}
use mathlib.Core.Logic.{◌⊎◌, inl, inr, ⊎_elim}
use mathlib.Core.List.{List, []}
use Rattle.model.specs.Task.{Task}
use Rattle.table.specs.declared.Verdict.{Verdict}
use Rattle.table.specs.declared.Verdict.TheVariants.{Good}
use Rattle.table.specs.Verdicts.{good}
use Rattle.table.specs.declared.Wanted.{Wanted}
use Rattle.table.specs.Fields.{field, judge}
use Rattle.table.proofs.Fine.{Fine, fine_good}
use Rattle.fields.specs.Stepping.{stop, go, ◌then◌, unless, asked, field_at, fields_at, row_by}
use Rattle.files.specs.Reading.{row_at, rows_at, end_at, decode}
use Rattle.fields.proofs.Taken.{field-read}
use Rattle.demands.specs.Reached.{MayBe, Stands, Rows, Wants, its_fields, its_times}
use Rattle.demands.proofs.Along.{Agrees, AllStand, OneRefused, stopped_or-not, along_read, fields_reached}

-- ---- one number

-- what may be is fine
pub may_fine : {w : Wanted} {x : ℕ} → MayBe w x → Fine w x
may_fine m = record { least = m.range.least; most = m.range.most; room = m.left }

-- so it is good
pub may_good : (w : Wanted) (number x : ℕ) → MayBe w x → judge w number x ≡ Good
may_good w number x m = fine_good w number x (may_fine m)

-- and what is fine may be
pub fine_may : {w : Wanted} {x : ℕ} → Fine w x → MayBe w x
fine_may f = record { range = record { least = f.least; most = f.most }; left = f.room }

-- a number that stands there is read
pub stands_read : {s : List ℕ} {w : Wanted} {at v next : ℕ} → Stands s w at v next → field_at s w at ≡ go v next
unfolding field_at asked unless good
stands_read {w = w} {at = at} {v = v} n = rw (n.number, may_good w at v n.may)

-- a number that was read stands there
pub read_stands : (s : List ℕ) (w : Wanted) (at v next : ℕ) → field_at s w at ≡ go v next → Stands s w at v next
read_stands s w at v next e = let r = field-read s w at v next e in record { number = r.number; may = fine_may r.fine }

-- so what stands in a file is what is read of it
pub in_file : (s : List ℕ) → Agrees (Stands s) (field_at s)
in_file s = record { read = stands_read; stands = read_stands s }

-- ---- from the words to the reader

module _ {s : List ℕ} where
  -- reading goes on behind rows
  pub rows-read : {k at : ℕ} {done : List Task} → Rows s k done at → decode s ≡ (rows_at k done s at then end_at s)
  unfolding decode rows_at row_at row_by fields_at ◌then◌
  rows-read (Rows.none a) = rw (stands_read a)
  rows-read (Rows.more r f t) = rows-read r ∙ rw (along_read (in_file s) [] f, along_read (in_file s) [] t)

  -- where the number wanted is refused, so is the file
  pub wants_read : {at : ℕ} {w : Wanted} {v : Verdict} → Wants s at w → field_at s w at ≡ stop v → decode s ≡ stop v
  unfolding decode rows_at row_at row_by fields_at ◌then◌
  wants_read Wants.count e = rw e
  wants_read (Wants.of_fields r f) e = rows-read r ∙ rw (along_read (in_file s) [] f, e)
  wants_read (Wants.of_times r f t) e = rows-read r ∙ rw (along_read (in_file s) [] f, along_read (in_file s) [] t, e)

-- ---- from the reader to the words

-- the file stops at a number
pub record AtNumber (s : List ℕ) : Type 0 where
  pub at : ℕ
  pub w : Wanted
  pub v : Verdict
  pub wants : Wants s at w
  pub refused : field_at s w at ≡ stop v

-- or all its rows stand there
pub record AtEnd (s : List ℕ) : Type 0 where
  pub tasks : List Task
  pub at : ℕ
  pub rows : Rows s 0 tasks at

-- one row more stands there
record OneMore (s : List ℕ) (k : ℕ) : Type 0 where
  done : List Task
  at : ℕ
  rows : Rows s k done at

module _ (s : List ℕ) where
  -- a row
  row_reached : (k : ℕ) (done : List Task) (at : ℕ) → Rows s (suc k) done at → AtNumber s ⊎ OneMore s k
  row_reached k done at r = ⊎_elim of_fields (λ f. inl (at_fields f)) (fields_reached (in_file s) (its_fields done) at)
    where
      at_fields : OneRefused (Stands s) (field_at s) (its_fields done) at → AtNumber s
      at_fields f = record { at = f.n; w = f.w; v = f.v; wants = Wants.of_fields r f.along; refused = f.refused }

      at_times : (f : AllStand (Stands s) (its_fields done) at) → OneRefused (Stands s) (field_at s) (its_times f.vs) f.n → AtNumber s
      at_times f t =
          record { at = t.n; w = t.w; v = t.v; wants = Wants.of_times r f.along t.along; refused = t.refused }

      of_fields : AllStand (Stands s) (its_fields done) at → AtNumber s ⊎ OneMore s k
      of_fields f =
          ⊎_elim (λ t. inr (record { done = _; at = t.n; rows = Rows.more r f.along t.along })) (λ t. inl (at_times f t))
          (fields_reached (in_file s) (its_times f.vs) f.n)

  -- rows one after another
  rows_reached : (k : ℕ) (done : List Task) (at : ℕ) → Rows s k done at → AtNumber s ⊎ AtEnd s
  rows_reached zero done at r = inr (record { tasks = done; at = at; rows = r })
  rows_reached (suc k) done at r = ⊎_elim inl (λ x. rows_reached k x.done x.at x.rows) (row_reached k done at r)

  -- from the row count on
  pub reached : AtNumber s ⊎ AtEnd s
  reached =
      ⊎_elim (λ r. inl (record { at = 0; w = field 0 64; v = r.0; wants = Wants.count; refused = r.1 }))
      (λ r. rows_reached r.0 [] r.1 (Rows.none (read_stands s (field 0 64) 0 r.0 r.1 r.2)))
      (stopped_or-not (field_at s (field 0 64) 0))
