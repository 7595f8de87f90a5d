-- Reading a text stops only at a fault: a good answer is that of good rows, and of a text whose lines were read. Assumes nothing.
use Prim.Native.Nat.{ℕ, zero, suc, ◌+◌, ◌-◌}
use mathlib.Core.Path.{◌≡◌, refl, ap, ◌∙◌}
use mathlib.Core.Bool.{Bool, true, false}
use mathlib.Core.List.{List, [], ◌∷◌, ◌++◌}
use lib.ListN.{length, drop, replicate}
use lib.Dec.{eqb, ltb}
use Rattle.text.specs.Numerals.{digits_in}
use Rattle.text.specs.Text.{line_feed}
use Rattle.model.specs.Task.{Task}
use Rattle.table.specs.declared.Verdict.TheVariants.{Good, OutOfRange, BadText}
use Rattle.table.specs.Verdicts.{code_of, good}
use Rattle.table.specs.declared.Wanted.{Wanted}
use Rattle.table.specs.Fields.{time}
use Rattle.table.specs.Memory.{all_times, stored, rows_of}
use Rattle.table.specs.Clash.{clash_of}
use Rattle.table.proofs.GoodTasks.{GoodTasks}
use Rattle.fields.specs.Stepping.{Step, stop, go, fields_at}
use Rattle.fields.proofs.Taken.{passed, then_read}
use Rattle.fields.proofs.Honest.{Honest, stop_honest, go_honest, unless_honest, pick_honest, then_honest, honest_fault}
use Rattle.fields.proofs.Honest.{fields_honest, row_honest}
use Rattle.files.specs.Reading.{loaded}
use Rattle.fields.specs.declared.Ending.{Ending}
use Rattle.fields.specs.TextFields.{comma, quote, carriage_return, stands_at, shortest, decimal_at, closed_at, value_at, ending_at, text_times}
use Rattle.fields.specs.TextFields.{text_field}
use Rattle.comma.specs.Reading.{line_at, lines_at, decode_text, read_text}
use Rattle.comma.proofs.LinesBack.{text_back}

-- ---- where reading stops there is a fault

-- a text that is none
bad_honest : (A : Type 0) (at : ℕ) → Honest {A = A} (stop (BadText at))
unfolding good
bad_honest A at = stop_honest A (BadText at) refl

-- digits
shortest_honest : (ds : List ℕ) (at : ℕ) → Honest (shortest ds at)
unfolding shortest
shortest_honest [] at = bad_honest ℕ at
shortest_honest (d ∷ []) at = go_honest _ (at + 1)
shortest_honest (d ∷ e ∷ ds) at = pick_honest (eqb d 48) _ _ (bad_honest ℕ (at + 1)) (go_honest _ _)

module _ (s : List ℕ) where
  -- a number
  decimal_honest : (at : ℕ) → Honest (decimal_at s at)
  unfolding decimal_at
  decimal_honest at = shortest_honest (digits_in (drop at s)) at

  -- which may be quoted
  value_honest : (at : ℕ) → Honest (value_at s at)
  unfolding value_at closed_at
  value_honest at =
      pick_honest (stands_at quote s at) _ _
      (then_honest (decimal_at s (at + 1)) _ (decimal_honest (at + 1))
      (λ v n. pick_honest (stands_at quote s n) _ _ (go_honest v (n + 1)) (bad_honest ℕ n)))
      (decimal_honest at)

  -- what ends a field
  ending_honest : (at : ℕ) → Honest (ending_at s at)
  unfolding ending_at
  ending_honest at =
      pick_honest (ltb at (length s)) _ _
      (pick_honest (stands_at comma s at) _ _ (go_honest _ _)
      (pick_honest (stands_at carriage_return s at) _ _
      (pick_honest (stands_at line_feed s (at + 1)) _ _ (go_honest _ _) (bad_honest Ending (at + 1)))
      (bad_honest Ending at)))
      (go_honest _ at)

  -- a field
  field_honest : (last : Bool) (w : Wanted) (at : ℕ) → Honest (text_field last s w at)
  unfolding text_field
  field_honest last w at =
      then_honest (value_at s at) _ (value_honest at)
      (λ v end. then_honest (ending_at s end) _ (ending_honest end) (λ ending n. unless_honest _ v n))

  -- times
  times_honest : (k at : ℕ) → Honest (text_times s k at)
  unfolding text_times
  times_honest k at =
      then_honest (fields_at (text_field false s) (replicate (k - 1) time) [] at) _
      (fields_honest (text_field false s) (field_honest false) (replicate (k - 1) time) [] at)
      (λ ts m. then_honest (text_field true s time m) _ (field_honest true time m) (λ v n. go_honest _ n))

  -- lines
  lines_honest : (k : ℕ) (done : List Task) (at : ℕ) → Honest (lines_at k done s at)
  unfolding lines_at line_at good
  lines_honest zero done at =
      pick_honest (ltb at (length s)) _ _ (stop_honest (List Task) (OutOfRange at) refl) (go_honest done at)
  lines_honest (suc k) done at =
      pick_honest (ltb at (length s)) _ _
      (then_honest (line_at (length (all_times done)) s at) _
      (row_honest (text_field false s) (field_honest false) (text_times s) times_honest (length (all_times done)) at)
      (λ t n. lines_honest k (done ++ (t ∷ [])) n))
      (go_honest done at)

  -- the whole text
  text_honest : Honest (decode_text s)
  unfolding decode_text
  text_honest = then_honest (lines_at 64 [] s 0) _ (lines_honest 64 [] 0) (λ ts n. unless_honest (clash_of (rows_of ts)) ts n)

  -- ---- a good answer

  -- the rows that it is about
  pub record GoodText : Type 0 where
    pub tasks : List Task
    pub next : ℕ
    pub lines : lines_at 64 [] s 0 ≡ go tasks next
    pub good : GoodTasks tasks
    pub answer : read_text s ≡ record { verdict = Good; table = stored tasks }

  -- so it is about some
  pub good_text_lem : (read_text s).verdict ≡ Good → GoodText
  unfolding read_text decode_text
  good_text_lem e = of-step (decode_text s) refl e
    where
      of-step : (x : Step (List Task)) → decode_text s ≡ x → (loaded x).verdict ≡ Good → GoodText
      of-step (stop v) p q = absurd (honest_fault (decode_text s) v text_honest p (ap code_of q))
      of-step (go ts n) p q =
          let r = then_read (lines_at 64 [] s 0) _ ts n p in
          let u = passed (clash_of (rows_of r.what)) r.what r.place ts n r.rest in
          let back = text_back s r.what r.place r.first in
          record {
            tasks = r.what;
            next = r.place;
            lines = r.first;
            good = record { few = back.few; fine = back.fine; apart = u.fine };
            answer = ap loaded p ∙ rw u.same;
          }
