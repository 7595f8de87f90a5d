-- How many bytes of a text its lines take at most where they were read, with quotes. Assumes nothing.
use Prim.Native.Nat.{ℕ, ◌+◌, ◌*◌, ◌≤◌}
use native.Mathlib.Omega.{arith}
use mathlib.Core.Path.{◌≡◌, ap}
use mathlib.Core.Bool.{true, false}
use mathlib.Core.List.{List, [], ◌∷◌, ◌++◌}
use lib.ListN.{length, length-append}
use Rattle.lists.specs.Lists.{total}
use Rattle.lists.proofs.Each.{each_snoc_length}
use Rattle.lists.proofs.Totals.{total_snoc}
use Rattle.model.specs.Task.{Task}
use Rattle.table.specs.declared.Wanted.{Wanted}
use Rattle.table.specs.Fields.{head, time, row_from}
use Rattle.table.specs.Memory.{all_times}
use Rattle.fields.specs.Stepping.{go}
use Rattle.fields.specs.Ways.{Commas}
use Rattle.fields.proofs.Taken.{taken_all, head_read}
use Rattle.fields.proofs.RowRead.{row_pieces}
use Rattle.fields.proofs.TimesRead.{times-parts}
use Rattle.fields.proofs.Sizes.{fields-end}
use Rattle.fields.specs.TextFields.{text_field, text_times}
use Rattle.comma.specs.Reading.{line_at, lines_at}
use Rattle.comma.proofs.FieldRead.{in_text, field_short}
use Rattle.comma.proofs.LinesBack.{lines_by, line_in_text}
use Rattle.comma.proofs.Sizes.{cost, head-cost, times-cost}

module _ (s : List ℕ) where
  -- a field within a line: its digits, two quotes and a comma
  field_end : (w : Wanted) (at v n : ℕ) → text_field false s w at ≡ go v n → n ≤ at + cost 3 v
  field_end w at v n e = omega (arith, (field_short false s w at v n e).0)

  -- the times of a line, and one byte more for its end
  times-end : (k at : ℕ) (ts : List ℕ) (n : ℕ) → 1 ≤ k → text_times s k at ≡ go ts n → n ≤ at + total (cost 3) ts + 1
  times-end k at ts n some e =
      let r = times-parts Commas s k at ts n some e in
      let front = fields-end (text_field false s) (cost 3) field_end _ at r.front r.mid r.before in
      let last = (field_short true s time r.mid r.last n r.behind).0 in
      omega (arith, front, last, ap (total (cost 3)) r.whole, total_snoc (cost 3) r.front r.last)

  -- 50 bytes for a line, and 11 for each time
  line_end_lem : (used at : ℕ) (t : Task) (n : ℕ) → line_at used s at ≡ go t n → n ≤ at + 50 + 11 * length t.times
  unfolding line_at
  line_end_lem used at t n e =
      let r = row_pieces (text_field false s) (text_times s) used at t n e in
      let fields = fields-end (text_field false s) (cost 3) field_end (head used) at r.fields r.mid r.first in
      let own = head-cost 3 used r.fields (taken_all (in_text s) (head used) at r.fields r.mid r.first).fine in
      let same : t.times ≡ r.own = ap (λ (u : Task). u.times) r.whole in
      let some = (head_read (in_text s) used at r.fields r.mid r.first).parts.least in
      let times = times-end (row_from r.fields).parts r.mid r.own n some r.then_times in
      let fine = (line_in_text s used at t n e).fine.times in
      omega (arith, fields, own, times, ap (total (cost 3)) same, times-cost 3 (length t.times) t.times fine)

  -- what the rows that are done have taken, and those that are left may take
  abbrev Fit : List Task → ℕ → List Task → ℕ → Type 0
  Fit done at all n = n + 50 * length done + 11 * length (all_times done) ≤ at + 50 * length all + 11 * length (all_times all)

  -- lines behind the rows that are done
  lines_fit : (k : ℕ) (done : List Task) (at : ℕ) (all : List Task) (n : ℕ) → lines_at k done s at ≡ go all n → Fit done at all n
  lines_fit k done at all n =
      lines_by s (λ k done at. Fit done at all n) all n (λ k past. omega arith)
      (λ k done at t m e ih.
      let times : length (all_times (done ++ (t ∷ []))) ≡ length (all_times done) + length t.times = each_snoc_length _ done t in
      omega (arith, line_end_lem (length (all_times done)) at t m e, length-append done (t ∷ [])))
      k done at

  -- from the first line on
  pub text-end : (ts : List Task) (n : ℕ) → lines_at 64 [] s 0 ≡ go ts n → n ≤ 50 * length ts + 11 * length (all_times ts)
  text-end ts n e = omega (arith, lines_fit 64 [] 0 ts n e)
