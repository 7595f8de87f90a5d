-- A field is read exactly where it stands and is what it may be; how long it is, and what a plain text's are. Assumes nothing.
use Prim.Native.Nat.{ℕ, ◌+◌, ◌-◌, ◌≤◌, ◌<◌}
use native.Mathlib.Omega.{arith}
use borrow.Author.Tests.{eq-eqb}
use mathlib.Core.Path.{◌≡◌, refl, sym, ap, ◌∙◌}
use mathlib.Core.Bool.{Bool, true, false}
use mathlib.Core.Logic.{◌⊎◌, inl, inr}
use mathlib.Core.List.{List, [], ◌∷◌, ◌++◌}
use lib.ListN.{length, get_or, drop, replicate, length-append, get_or-append}
use lib.Seq.{get_or-drop, get_or-append-add}
use lib.Dec.{eqb}
use Rattle.lists.specs.Lists.{pick, any}
use Rattle.lists.proofs.Tests.{by_test, never}
use Rattle.lists.proofs.Anys.{none_cons, none_drop}
use Rattle.text.specs.Text.{line_feed, decimal}
use Rattle.text.proofs.Numerals.{decimal_first, decimal-end}
use Rattle.table.specs.Verdicts.{code_of, good, ◌or_else◌}
use Rattle.table.specs.declared.Wanted.{Wanted}
use Rattle.table.specs.Fields.{time, judge}
use Rattle.table.proofs.Codes.{first_good, then_good}
use Rattle.table.proofs.Fine.{Fine, fine_good, good_fine}
use Rattle.fields.specs.Stepping.{go, ◌then◌, unless}
use Rattle.fields.proofs.Taken.{Reader, Between, between_within, both_between, passed, then_read, taken_all}
use Rattle.fields.proofs.RowRead.{TimesReader}
use Rattle.fields.proofs.TimesRead.{times-parts, times_fine}
use Rattle.fields.specs.declared.Ending.{Ending}
use Rattle.fields.specs.declared.Ending.TheVariants.{Comma, Line, Text}
use Rattle.fields.specs.Ways.{Commas}
use Rattle.fields.specs.TextFields.{comma, quote, value_at, ending_at, fits, misfit, text_field, text_times}
use Rattle.comma.specs.Writing.{line_end}
use Rattle.comma.specs.Claims.{Plain}
use Rattle.comma.proofs.LineBytes.{with_comma, in_line, in_line-last}
use Rattle.comma.proofs.ValueRead.{Value, value_read, value_ended, Ends, ending-read, ending_here}

-- ---- a field

-- a field that stands there and is what it may be: its number, then what ends it and fits
pub record Field (last : Bool) (s : List ℕ) (w : Wanted) (at v n : ℕ) : Type 0 where
  pub end : ℕ
  pub ending : Ending
  pub value : Value s at v end
  pub ends : Ends s end ending n
  pub fitting : fits last ending ≡ true
  pub fine : Fine w v

-- what is said of a number that stands there with what ends it: its range, then whether its stop fits
pub field_said : (last : Bool) {s : List ℕ} (w : Wanted) {at : ℕ} (v : ℕ) {end n : ℕ} {ending : Ending} → Value s at v end
    → Ends s end ending n → text_field last s w at ≡ unless (judge w at v or_else misfit last ending end) v n
unfolding text_field ◌then◌
field_said last w v {ending = ending} k e = rw (value_ended k e, ending_here ending e)

-- so a field that stands there and is what it may be is read
pub field-here : {last : Bool} {s : List ℕ} {w : Wanted} {at v n : ℕ} → Field last s w at v n → text_field last s w at ≡ go v n
unfolding unless misfit good ◌or_else◌
field-here {last} {w = w} {at} {v} f = field_said last w v f.value f.ends ∙ rw (fine_good w at v f.fine, f.fitting)

-- a stop that fits
fits-good : (last : Bool) (ending : Ending) (at : ℕ) → code_of (misfit last ending at) ≡ 0 → fits last ending ≡ true
unfolding misfit
fits-good last ending at e = by_test (fits last ending) (λ t. t) (λ t. absurd (omega (arith, rw t at e)))

-- its number, then what ends it, and neither has a fault
field_of : (last : Bool) (s : List ℕ) (w : Wanted) (at u end : ℕ) (ending : Ending) (m v n : ℕ) → value_at s at ≡ go u end
    → ending_at s end ≡ go ending m → unless (judge w at u or_else misfit last ending end) u m ≡ go v n → Field last s w at v n
field_of last s w at u end ending m v n e f g =
    let p = passed (judge w at u or_else misfit last ending end) u m v n g in
    rw (← p.same, ← p.place)
    record {
      end = end;
      ending = ending;
      value = value_read s at u end e;
      ends = ending-read s end ending m f;
      fitting = fits-good last ending end (then_good (judge w at u) _ p.fine);
      fine = good_fine w at u (first_good (judge w at u) _ p.fine);
    }

-- so it is where a field was read
pub field-read : (last : Bool) (s : List ℕ) (w : Wanted) (at v n : ℕ) → text_field last s w at ≡ go v n → Field last s w at v n
unfolding text_field
field-read last s w at v n e =
    let a = then_read (value_at s at) _ v n e in
    let b = then_read (ending_at s a.place) _ v n a.rest in
    field_of last s w at a.what a.place b.what b.place v n a.first b.first b.rest

-- ---- how many bytes it takes

-- its number ends within the text, with two quotes at most
value_short : (s : List ℕ) (at v end : ℕ) → Value s at v end
    → (end ≤ at + length (decimal v) + 2) × (end ≤ length s)
value_short s at v end (inl k) = (omega (arith, k.past), between_within (decimal_first v).some k)
value_short s at v end (inr k) = (omega (arith, k.past, length-append (quote ∷ decimal v) (quote ∷ [])), between_within (omega arith) k)

-- what ends a field within a line is a comma, and a line is ended by two bytes or by the text's end
ends_short : (last : Bool) (s : List ℕ) (end : ℕ) (ending : Ending) (n : ℕ) → fits last ending ≡ true → Ends s end ending n
    → end ≤ length s → (n ≤ end + pick last 2 1) × (n ≤ length s)
unfolding fits
ends_short true s end Comma n fit k h = absurd (never fit refl)
ends_short false s end Comma n fit k h = (omega (arith, k.bytes.past), between_within (omega arith) k.bytes)
ends_short true s end Line n fit k h = (omega (arith, k.bytes.past), between_within (omega arith) k.bytes)
ends_short false s end Line n fit k h = absurd (never fit refl)
ends_short true s end Text n fit k h = (omega (arith, k.bytes.past), omega (arith, k.bytes.past))
ends_short false s end Text n fit k h = absurd (never fit refl)

-- so a field takes its digits, two quotes and what ends it
pub field_short : (last : Bool) (s : List ℕ) (w : Wanted) (at v n : ℕ) → text_field last s w at ≡ go v n
    → (n ≤ at + length (decimal v) + 2 + pick last 2 1) × (n ≤ length s)
field_short last s w at v n e =
    let f = field-read last s w at v n e in
    let a = value_short s at v f.end f.value in
    let b = ends_short last s f.end f.ending n f.fitting f.ends a.1 in
    (omega (arith, a.0, b.0), b.1)

-- ---- in a text without quotes, whose lines are ended

module _ (s : List ℕ) (plain : Plain s) where
  -- no quote stands in it
  no_quote : (at : ℕ) (bytes : List ℕ) (n : ℕ) → Between s at (quote ∷ bytes) n → ⊥
  no_quote at bytes n k =
      let none : any (eqb quote) (quote ∷ (bytes ++ drop n s)) ≡ false = rw k.stand at (none_drop (eqb quote) at s plain.unquoted) in
      never (eq-eqb quote quote refl) (none_cons (eqb quote) quote (bytes ++ drop n s) none).0

  -- so a number stands there bare
  bare : (at v end : ℕ) → Value s at v end → Between s at (decimal v) end
  bare at v end (inl k) = k
  bare at v end (inr k) = absurd (no_quote at (decimal v ++ (quote ∷ [])) end k)

  -- and is not the last of the text, which is a line feed
  line_follows : (at v end : ℕ) → Between s at (decimal v) end → length s ≤ end → ⊥
  line_follows at v end k past = by plain.ended
    where
      digits : 0 < length (decimal v)
      digits = (decimal_first v).some

      within : end ≤ length s
      within = between_within digits k

      by : ((s ≡ []) ⊎ ((front : List ℕ) × (s ≡ front ++ line_end))) → ⊥
      by (inl e) = omega (arith, ap length e, k.past, digits, within)
      by (inr (front, e)) =
          let i = length (decimal v) - 1 in
          let last : length front + 1 ≡ at + i = omega (arith, ap length e, length-append front line_end, k.past, within, digits) in
          let feed : get_or s (at + i) 0 ≡ line_feed = rw (e, ← last) (get_or-append-add front line_end 1 0) in
          let digit : get_or s (at + i) 0 ≡ get_or (decimal v) i 0
          = sym (get_or-drop at s i 0) ∙ rw k.stand (get_or-append (decimal v) (drop end s) 0 i (omega (arith, digits))) in
          omega (arith, decimal-end v)

  -- a field within a line stands there with its comma
  comma_follows : (at v end : ℕ) (ending : Ending) (n : ℕ) → Between s at (decimal v) end → fits false ending ≡ true → Ends s end ending n
      → Between s at (with_comma v) n
  unfolding fits
  comma_follows at v end Comma n k fit e = both_between s at end n (decimal v) (comma ∷ []) k e.bytes
  comma_follows at v end Line n k fit e = absurd (never fit refl)
  comma_follows at v end Text n k fit e = absurd (never fit refl)

  -- and the last of a line with the line's end
  end_follows : (at v end : ℕ) (ending : Ending) (n : ℕ) → Between s at (decimal v) end → fits true ending ≡ true → Ends s end ending n
      → Between s at (decimal v ++ line_end) n
  unfolding fits
  end_follows at v end Comma n k fit e = absurd (never fit refl)
  end_follows at v end Line n k fit e = both_between s at end n (decimal v) line_end k e.bytes
  end_follows at v end Text n k fit e = absurd (line_follows at v end k (e.last refl))

-- ---- the fields and times of a line

module _ (s : List ℕ) where
  -- a field within a line
  pub in_text : Reader s (Plain s) with_comma (text_field false s)
  in_text = record {
    fine = λ w at v n e. (field-read false s w at v n e).fine;
    bytes = λ p w at v n e.
        let f = field-read false s w at v n e in
        comma_follows s p at v f.end f.ending n (bare s p at v f.end f.value) f.fitting f.ends;
  }

  -- the last field of a line
  pub last_in_text : Reader s (Plain s) (λ v. decimal v ++ line_end) (text_field true s)
  last_in_text = record {
    fine = λ w at v n e. (field-read true s w at v n e).fine;
    bytes = λ p w at v n e.
        let f = field-read true s w at v n e in
        end_follows s p at v f.end f.ending n (bare s p at v f.end f.value) f.fitting f.ends;
  }

-- the times of a line: at least one, and where the text is plain they stand there joined by commas
pub times_in_text : (s : List ℕ) → TimesReader s (Plain s) in_line (text_times s)
times_in_text s = record {
  fine = times_fine Commas s;
  bytes = λ p k at ts n some e.
      let r = times-parts Commas s k at ts n some e in
      let front = (taken_all (in_text s) (replicate (k - 1) time) at r.front r.mid r.before).bytes p in
      let last = (last_in_text s).bytes p time r.mid r.last n r.behind in
      rw (r.whole, in_line-last r.front r.last) (both_between s at r.mid n _ _ front last);
}
