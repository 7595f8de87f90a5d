-- The file that good tasks are written as is read back as those tasks; of others that are fine the rules decide. Assumes nothing.
use Prim.Native.Nat.{ℕ, ◌+◌, ◌≤◌}
use native.Mathlib.Nat.{add-zero}
use native.Mathlib.Omega.{arith}
use borrow.Author.Tests.{le-ltb}
use mathlib.Core.Path.{◌≡◌, sym, ap, ap₂, ◌∙◌}
use mathlib.Core.List.{List, [], ◌∷◌, ◌++◌, append_assoc, append-nil}
use lib.ListN.{length, drop, length-append}
use Rattle.lists.specs.Lists.{each}
use Rattle.lists.proofs.Drops.{next_here}
use Rattle.lists.proofs.Each.{each_snoc_length}
use Rattle.numbers.specs.Numbers.{encode, encode_all}
use Rattle.model.specs.Task.{Task}
use Rattle.table.specs.Fields.{field, head, fields_of}
use Rattle.table.specs.Memory.{row_of, all_times, rows_of}
use Rattle.table.specs.Clash.{clash_of}
use Rattle.table.proofs.Codes.{is_good}
use Rattle.table.proofs.Fine.{Fine}
use Rattle.table.proofs.GoodTasks.{FineTask, FineTasks, GoodTasks}
use Rattle.fields.specs.Stepping.{go, ◌then◌, unless, row_by}
use Rattle.fields.proofs.Sizes.{four_head, four_times}
use Rattle.fields.proofs.Here.{field-here, finds_in_file, fields-here}
use Rattle.files.specs.Reading.{row_at, rows_at, end_at, decode}
use Rattle.files.specs.Writing.{encode_file}
use Rattle.files.proofs.RowBytes.{row_bytes, rows_bytes, row-parts, rows_none, rows_more, file-parts}

-- a row: its fields, then its times
row_here : (used : ℕ) (t : Task) (s rest : List ℕ) (at : ℕ) → FineTask used t → drop at s ≡ row_bytes t ++ rest
    → row_at used s at ≡ go t (at + length (row_bytes t))
unfolding row_at row_by ◌then◌
row_here used t s rest at f here =
    let fields = encode_all (fields_of (row_of t)) in
    let times = encode_all t.times in
    let first : drop at s ≡ fields ++ (times ++ rest)
    = here ∙ ap (λ (l : List ℕ). l ++ rest) (row-parts t) ∙ append_assoc fields times rest in
    let others : drop (at + length fields) s ≡ times ++ rest = next_here s fields (times ++ rest) at first in
    rw (
      fields-here (finds_in_file s) (head used) (fields_of (row_of t)) [] (times ++ rest) at (four_head used) f.fields first,
      fields-here (finds_in_file s) _ t.times [] rest (at + length fields) (four_times (length t.times)) f.times others,
    )
    (ap (go t) (rw (row-parts t, length-append fields times) (omega arith)))

-- rows one after another
rows-here : (ts done : List Task) (s rest : List ℕ) (at : ℕ) → FineTasks (length (all_times done)) ts → drop at s ≡ rows_bytes ts ++ rest
    → rows_at (length ts) done s at ≡ go (done ++ ts) (at + length (rows_bytes ts))
unfolding FineTasks rows_at ◌then◌
rows-here [] done s rest at f here = ap₂ go (sym (append-nil done)) (rw (rows_none, add-zero))
rows-here (t ∷ ts) done s rest at f here =
    let first : drop at s ≡ row_bytes t ++ (rows_bytes ts ++ rest)
    = here ∙ ap (λ (l : List ℕ). l ++ rest) (rows_more t ts) ∙ append_assoc (row_bytes t) (rows_bytes ts) rest in
    let others : drop (at + length (row_bytes t)) s ≡ rows_bytes ts ++ rest = next_here s (row_bytes t) (rows_bytes ts ++ rest) at first in
    let before : length (all_times done) + length t.times ≡ length (all_times (done ++ (t ∷ []))) = sym (each_snoc_length _ done t) in
    rw (row_here (length (all_times done)) t s (rows_bytes ts ++ rest) at f.0 first)
    (rows-here ts (done ++ (t ∷ [])) s rest (at + length (row_bytes t)) (rw before at f.1) others
    ∙ ap₂ go (append_assoc done (t ∷ []) ts) (rw (rows_more t ts, length-append) (omega arith)))

-- the whole file: what is left are the rules over all its rows
pub file_judged : (ts : List Task) → length ts ≤ 64 → FineTasks 0 ts
    → decode (encode_file ts) ≡ unless (clash_of (rows_of ts)) ts (length (encode_file ts))
unfolding decode end_at ◌then◌
file_judged ts few fine =
    let s = encode_file ts in
    let at = 0 + length (encode (length ts)) in
    let others : drop at s ≡ rows_bytes ts ++ []
    = next_here s (encode (length ts)) (rows_bytes ts) 0 (file-parts ts) ∙ sym (append-nil (rows_bytes ts)) in
    let all : at + length (rows_bytes ts) ≡ length s = rw (file-parts ts, length-append) (omega arith) in
    let none : FineTasks (length (all_times [])) ts = unfold each in fine in
    let count : Fine (field 0 64) (length ts) = record { least = omega arith; most = few; room = few } in
    rw (
      field-here (encode_file ts) (field 0 64) (length ts) (rows_bytes ts) 0 (omega arith) count (file-parts ts),
      rows-here ts [] s [] at none others,
      all,
      le-ltb (length s) (length s) (omega arith),
    )

-- which good rows keep
pub file-here : (ts : List Task) → GoodTasks ts → decode (encode_file ts) ≡ go ts (length (encode_file ts))
unfolding unless
file-here ts g = file_judged ts g.few g.fine ∙ rw (is_good (clash_of (rows_of ts)) g.apart)
