-- The text that fine rows are written as is read back as those rows. Assumes nothing.
use Prim.Native.Nat.{ℕ, zero, suc, ◌+◌, ◌≤◌, ◌<◌}
use native.Mathlib.Nat.{add-zero}
use native.Mathlib.Numerals.{sub-one}
use native.Mathlib.Omega.{arith}
use borrow.Author.Tests.{lt-ltb}
use mathlib.Core.Path.{◌≡◌, refl, sym, ap, ap₂, ◌∙◌}
use mathlib.Core.List.{List, [], ◌∷◌, ◌++◌, append_assoc, append-nil}
use lib.ListN.{length, drop, replicate, length-append, length-drop}
use lib.Dec.{lit<}
use Rattle.lists.specs.Lists.{each}
use Rattle.lists.proofs.Drops.{next_here}
use Rattle.lists.proofs.Each.{each_snoc_length}
use Rattle.text.specs.Text.{decimal}
use Rattle.model.specs.Task.{Task}
use Rattle.table.specs.declared.Wanted.{Wanted}
use Rattle.table.specs.Fields.{head, time, fields_of}
use Rattle.table.specs.Memory.{row_of, all_times}
use Rattle.table.proofs.Fine.{Fine, AllFine}
use Rattle.table.proofs.Heads.{good-head}
use Rattle.table.proofs.GoodTasks.{FineTask, FineTasks}
use Rattle.fields.specs.Stepping.{go, ◌then◌, row_by}
use Rattle.fields.proofs.Sizes.{four_head, four_times}
use Rattle.fields.proofs.Here.{fields-here}
use Rattle.fields.specs.TextFields.{text_times}
use Rattle.comma.specs.Reading.{line_at, lines_at}
use Rattle.comma.specs.Writing.{line_end, line_of, lines_of}
use Rattle.comma.proofs.LineBytes.{with_comma, in_line, in_line-last, line-parts, line_some, lines_none, lines_more}
use Rattle.comma.proofs.LinesSteps.{lines_end}
use Rattle.comma.proofs.FieldHere.{finds_in_text, finds_last}

-- ---- the times of a line

-- numbers, the last of them apart
record LastApart (ns : List ℕ) : Type 0 where
  front : List ℕ
  last : ℕ
  whole : ns ≡ front ++ (last ∷ [])

-- so they are where there are some
last_apart : (n : ℕ) (ns : List ℕ) → LastApart (n ∷ ns)
last_apart n [] = record { front = []; last = n; whole = refl }
last_apart n (m ∷ ns) = let e = last_apart m ns in record { front = n ∷ e.front; last = e.last; whole = ap (◌∷◌ n) e.whole }

-- of fine numbers the last and the others are fine
fine_apart : (k : ℕ) (w : Wanted) (ns : List ℕ) (v : ℕ) → AllFine (replicate (suc k) w) (ns ++ (v ∷ []))
    → AllFine (replicate k w) ns × Fine w v
unfolding AllFine
fine_apart zero w [] v f = (tt, f.0)
fine_apart (suc k) w [] v f = absurd f.1
fine_apart zero w (n ∷ []) v f = absurd f.1
fine_apart zero w (n ∷ m ∷ ns) v f = absurd f.1
fine_apart (suc k) w (n ∷ ns) v f = let r = fine_apart k w ns v f.1 in ((f.0, r.0), r.1)

module _ (s : List ℕ) where
  -- all but the last with their commas, then the last with the line's end
  last-here : (k : ℕ) (ns : List ℕ) (v : ℕ) (rest : List ℕ) (at : ℕ) → AllFine (replicate (suc k) time) (ns ++ (v ∷ []))
      → drop at s ≡ in_line (ns ++ (v ∷ [])) ++ rest
      → text_times s (suc k) at ≡ go (ns ++ (v ∷ [])) (at + length (in_line (ns ++ (v ∷ []))))
  unfolding text_times ◌then◌
  last-here k ns v rest at f here =
      let fine = fine_apart k time ns v f in
      let front = each with_comma ns in
      let end = decimal v ++ line_end in
      let first : drop at s ≡ front ++ (end ++ rest)
      = here ∙ ap (λ (l : List ℕ). l ++ rest) (in_line-last ns v) ∙ append_assoc front end rest in
      let next : drop (at + length front) s ≡ end ++ rest = next_here s front (end ++ rest) at first in
      let past : at + length front + length end ≡ at + length (in_line (ns ++ (v ∷ [])))
      = rw (in_line-last ns v, length-append front end) (omega arith) in
      rw (
        sub-one,
        fields-here (finds_in_text s) (replicate k time) ns [] (end ++ rest) at (four_times k) fine.0 first,
        (finds_last s).found time v rest (at + length front) (lit< tt) fine.1 next,
      )
      (ap (go (ns ++ (v ∷ []))) past)

  -- so times are read, of which there are some
  times-here : (ts rest : List ℕ) (at : ℕ) → 1 ≤ length ts → AllFine (replicate (length ts) time) ts → drop at s ≡ in_line ts ++ rest
      → text_times s (length ts) at ≡ go ts (at + length (in_line ts))
  times-here [] rest at some f here = absurd (omega arith)
  times-here (n ∷ ns) rest at some f here = by (n ∷ ns) (last_apart n ns) f here
    where
      by : (ts : List ℕ) → LastApart ts → AllFine (replicate (suc (length ns)) time) ts → drop at s ≡ in_line ts ++ rest
          → text_times s (suc (length ns)) at ≡ go ts (at + length (in_line ts))
      by ts e f here =
          rw e.whole
          (last-here (length ns) e.front e.last rest at (rw e.whole at f) (rw e.whole at here))

  -- ---- lines

  -- a line: its fields, then its times
  line-here : (used : ℕ) (t : Task) (rest : List ℕ) (at : ℕ) → FineTask used t → drop at s ≡ line_of t ++ rest
      → line_at used s at ≡ go t (at + length (line_of t))
  unfolding line_at row_by ◌then◌
  line-here used t rest at f here =
      let fields = each with_comma (fields_of (row_of t)) in
      let times = in_line t.times in
      let parts : line_of t ≡ fields ++ times = line-parts used t f in
      let first : drop at s ≡ fields ++ (times ++ rest) = here ∙ ap (λ (l : List ℕ). l ++ rest) parts ∙ append_assoc fields times rest in
      let others : drop (at + length fields) s ≡ times ++ rest = next_here s fields (times ++ rest) at first in
      let some : 1 ≤ length t.times = (good-head used (row_of t) f.fields).parts.least in
      rw (
        fields-here (finds_in_text s) (head used) (fields_of (row_of t)) [] (times ++ rest) at (four_head used) f.fields first,
        times-here t.times rest (at + length fields) some f.times others,
      )
      (ap (go t) (rw (parts, length-append fields times) (omega arith)))

  -- at the text's end no line follows
  none_left : (k : ℕ) (done : List Task) (at : ℕ) → drop at s ≡ lines_of []
      → lines_at k done s at ≡ go (done ++ []) (at + length (lines_of []))
  none_left k done at here =
      let past : length s ≤ at = omega (arith, ap length (here ∙ lines_none), length-drop at s) in
      lines_end done s at k past ∙ ap₂ go (sym (append-nil done)) (rw (lines_none, add-zero))

  -- lines one after another, up to the text's end
  lines_here : (k : ℕ) (ts done : List Task) (at : ℕ) → length ts ≤ k → FineTasks (length (all_times done)) ts → drop at s ≡ lines_of ts
      → lines_at k done s at ≡ go (done ++ ts) (at + length (lines_of ts))
  unfolding FineTasks lines_at ◌then◌
  lines_here zero [] done at few f here = none_left zero done at here
  lines_here zero (t ∷ ts) done at few f here = absurd (omega arith)
  lines_here (suc k) [] done at few f here = none_left (suc k) done at here
  lines_here (suc k) (t ∷ ts) done at few f here =
      let first : drop at s ≡ line_of t ++ lines_of ts = here ∙ lines_more t ts in
      let others : drop (at + length (line_of t)) s ≡ lines_of ts = next_here s (line_of t) (lines_of ts) at first in
      let before : length (all_times done) + length t.times ≡ length (all_times (done ++ (t ∷ []))) = sym (each_snoc_length _ done t) in
      let more : at < length s
      = omega (arith, ap length first, length-append (line_of t) (lines_of ts), line_some t, length-drop at s) in
      rw (lt-ltb at (length s) more, line-here (length (all_times done)) t (lines_of ts) at f.0 first)
      (lines_here k ts (done ++ (t ∷ [])) (at + length (line_of t)) (omega arith) (rw before at f.1) others
      ∙ ap₂ go (append_assoc done (t ∷ []) ts) (rw (lines_more t ts, length-append) (omega arith)))

-- the whole text
pub text-here : (ts : List Task) → length ts ≤ 64 → FineTasks 0 ts → lines_at 64 [] (lines_of ts) 0 ≡ go ts (length (lines_of ts))
text-here ts few fine =
    let none : FineTasks (length (all_times [])) ts = unfold each in fine in
    lines_here (lines_of ts) 64 ts [] 0 few none refl ∙ ap (go ts) (omega arith)
