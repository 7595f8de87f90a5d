-- A wanted field of a text is refused exactly when the rules of 17, 3 and 7 say so. Assumes nothing.
use Prim.Native.Nat.{ℕ, suc, ◌+◌, ◌-◌, ◌≤◌, ◌<◌}
use native.Mathlib.Omega.{arith}
use mathlib.Core.Path.{◌≡◌, refl, sym, ap, subst, ◌∙◌}
use mathlib.Core.Logic.{⊎_elim}
use mathlib.Core.Bool.{Bool, true, false}
use mathlib.Core.List.{List, ◌++◌, append_assoc}
use lib.ListN.{length, take, drop, length-append, length-drop}
use lib.Seq.{take-add, take-length, take-append_seam}
use Rattle.lists.proofs.Tests.{by_test, never, either}
use Rattle.table.specs.declared.Verdict.{Verdict}
use Rattle.table.specs.declared.Verdict.TheVariants as C
use Rattle.table.specs.Verdicts.{good, ◌or_else◌}
use Rattle.table.specs.declared.Wanted.{Wanted}
use Rattle.table.specs.Fields.{judge}
use Rattle.fields.specs.Stepping.{Step, stop, go, ◌then◌, unless}
use Rattle.fields.proofs.Taken.{stopped_not, then_read}
use Rattle.fields.specs.declared.Ending.{Ending}
use Rattle.fields.specs.declared.Ending.TheVariants.{Comma, Line, Text}
use Rattle.fields.specs.TextFields.{value_at, ending_at, fits, misfit, text_field}
use Rattle.comma.proofs.ValueRead.{value_read, ending-read}
use Rattle.comma.proofs.FieldRead.{field_said, field-here, field-read}
use Rattle.demands.specs.TextReached.{FieldStands, NoField, CanGoOn, StopFits, Holds}
use Rattle.demands.specs.Texts.{FieldRule}
use Rattle.demands.proofs.Along.{Agrees, stopped_or-not}
use Rattle.demands.proofs.Reached.{may_fine, may_good, fine_may}
use Rattle.demands.proofs.NumberRule.{out_judged, over_judged, Judged, judged}
use Rattle.demands.proofs.TextField.{field-parts, parts-field}
use Rattle.demands.proofs.TextFault.{text_at, stopped_no_field, text-fault, cannot_go_on}

-- ---- the first byte that cannot go on

-- fewer bytes can go on too
fewer_can : (m n : ℕ) (b : List ℕ) → m ≤ n → CanGoOn (take n b) → CanGoOn (take m b)
fewer_can m n b h c =
    let rest = take (n - m) (drop m b) in
    let all : m + (n - m) ≡ n = omega arith in
    let cut : take n b ≡ take m b ++ rest = sym (ap (λ i. take i b) all) ∙ take-add m (n - m) b in
    let whole : take m b ++ (rest ++ c.more) ≡ take n b ++ c.more = rw (cut, append_assoc) in
    record {
      more = rest ++ c.more;
      v = c.v;
      ending = c.ending;
      text = c.text;
      field = c.field;
      whole = whole ∙ c.whole;
    }

-- n bytes can go on, and one more, if there is one, cannot
record Stuck (b : List ℕ) (n : ℕ) : Type 0 where
  few : n ≤ length b
  can : CanGoOn (take n b)
  cannot : n < length b → CanGoOn (take (suc n) b) → ⊥

-- there is one such number
stuck_once : {b : List ℕ} {m n : ℕ} → Stuck b m → Stuck b n → m ≡ n
stuck_once {b} {m} {n} p q =
    ⊎_elim (λ h. absurd (p.cannot (omega (arith, q.few)) (fewer_can (suc m) n b h q.can)))
    (λ h.
    ⊎_elim (λ g. absurd (q.cannot (omega (arith, p.few)) (fewer_can (suc n) m b g p.can))) (λ g. omega arith) (either n m))
    (either m n)

-- where reading stops
record StopsAt (s : List ℕ) (at : ℕ) (u : Verdict) : Type 0 where
  n : ℕ
  says : u ≡ C.BadText (at + n)
  stuck : Stuck (drop at s) n

module _ (s : List ℕ) (at : ℕ) where
  -- is the first byte that cannot go on, or the text's length
  stops_at : (u : Verdict) → at ≤ length s → text_at s at ≡ stop u → StopsAt s at u
  stops_at u inside e =
      let f = text-fault e in
      let n = length f.front in
      let says : u ≡ C.BadText (at + n) = f.says ∙ ap C.BadText f.before.past in
      let long : length (drop at s) ≡ n + length (drop f.k s)
      = ap length f.before.stand ∙ length-append f.front (drop f.k s) in
      let front : take n (drop at s) ≡ f.front = ap (take n) f.before.stand ∙ take-append_seam f.front (drop f.k s) in
      record {
        n = n;
        says = says;
        stuck = record {
          few = omega arith;
          can = rw front f.can;
          cannot = λ h. cannot_go_on s at n (e ∙ ap stop says) (omega (arith, length-drop at s));
        };
      }

  -- a field's text that is read is a field
  text_field_lem : (ending : Ending) (next : ℕ) → text_at s at ≡ go ending next → (v : ℕ) × (end : ℕ) × FieldStands s at v ending end next
  unfolding text_at
  text_field_lem ending next e =
      let r = then_read (value_at s at) (λ value end. ending_at s end) ending next e in
      (r.what, r.place, parts-field (value_read s at _ _ r.first) (ending-read s _ ending next r.rest))

  -- where no field stands, reading stops there
  no_field_stops : {n : ℕ} → at ≤ length s → NoField s at → Stuck (drop at s) n → text_at s at ≡ stop (C.BadText (at + n))
  no_field_stops {n} inside none p =
      ⊎_elim
      (λ r.
      let q = stops_at r.0 inside r.1 in
      let same : q.n ≡ n = stuck_once q.stuck p in
      r.1 ∙ ap stop (q.says ∙ rw same))
      (λ r. let f = text_field_lem r.0 r.1 r.2 in absurd (none f.0 r.0 f.1 r.1 f.2))
      (stopped_or-not (text_at s at))

-- ---- a field

-- a stop that fits
fit_says : (last : Bool) (ending : Ending) → StopFits last ending → fits last ending ≡ true
unfolding fits
fit_says last ending StopFits.follow = refl
fit_says last ending StopFits.line = refl
fit_says last ending StopFits.text = refl

-- and no other does
says_fit : (last : Bool) (ending : Ending) → fits last ending ≡ true → StopFits last ending
unfolding fits
says_fit false Comma e = StopFits.follow
says_fit true Line e = StopFits.line
says_fit true Text e = StopFits.text
says_fit true Comma e = absurd (never e refl)
says_fit false Line e = absurd (never e refl)
says_fit false Text e = absurd (never e refl)

-- first one thing, then another: where the first stops it is all one what comes then
then_stops : {A B D : Type 0} {u : Verdict} (x : Step A) (f : A → ℕ → Step B) (g : A → ℕ → Step D)
    → ((a : A) (n : ℕ) → f a n ≡ stop u → g a n ≡ stop u) → (x then f) ≡ stop u → (x then g) ≡ stop u
unfolding ◌then◌
then_stops (stop v) f g h e = cc
then_stops (go a n) f g h e = h a n e

module _ (s : List ℕ) (last : Bool) (w : Wanted) (at : ℕ) where
  -- where its text is refused, so is the field
  text-refused : {u : Verdict} → text_at s at ≡ stop u → text_field last s w at ≡ stop u
  unfolding text_at text_field ◌then◌
  text-refused e = then_stops (value_at s at) _ _ (λ v end q. rw q) e

  -- a fault is given
  field-refused : {v end next : ℕ} {ending : Ending} {u : Verdict} → FieldStands s at v ending end next
      → judge w at v or_else misfit last ending end ≡ u → good u ≡ false → text_field last s w at ≡ stop u
  unfolding unless
  field-refused {v} f e b = let p = field-parts f in field_said last w v p.value p.ends ∙ rw (e, b)

  -- and without one the field is read
  holds_read : {v next : ℕ} → Holds s last w at v next → text_field last s w at ≡ go v next
  holds_read {v} h =
      let p = field-parts h.stands in
      field-here
      (record {
        end = h.end;
        ending = h.ending;
        value = p.value;
        ends = p.ends;
        fitting = fit_says last h.ending h.fits;
        fine = may_fine h.may;
      })

  -- a field that was read stands there and is what it may be
  read_holds : (v next : ℕ) → text_field last s w at ≡ go v next → Holds s last w at v next
  read_holds v next e =
      let f = field-read last s w at v next e in
      record {
        ending = f.ending;
        end = f.end;
        stands = parts-field f.value f.ends;
        may = fine_may f.fine;
        fits = says_fit last f.ending f.fitting;
      }

-- what stands in a text is what is read of it
pub in_text : (s : List ℕ) (last : Bool) → Agrees (Holds s last) (text_field last s)
in_text s last = record { read = holds_read s last _ _; stands = read_holds s last }

-- ---- its rules

module _ (s : List ℕ) (last : Bool) (w : Wanted) (at : ℕ) (inside : at ≤ length s) where
  -- a rule refuses
  pub rule_refuses : {u : Verdict} → FieldRule s last w at u → text_field last s w at ≡ stop u
  unfolding misfit ◌or_else◌ good
  rule_refuses (FieldRule.byte none h can cannot) =
      text-refused s last w at (no_field_stops s at inside none (record { few = omega arith; can = can; cannot = λ g. cannot }))
  rule_refuses (FieldRule.cut none can) =
      let stuck : Stuck (drop at s) (length (drop at s))
      = record { few = omega arith; can = rw (take-length (drop at s)) can; cannot = λ h. absurd (omega arith) } in
      let end : at + length (drop at s) ≡ length s = omega (arith, length-drop at s) in
      text-refused s last w at (no_field_stops s at inside none stuck ∙ rw end)
  rule_refuses (FieldRule.out {v = v} f h) = field-refused s last w at f (rw (out_judged w at v h)) refl
  rule_refuses (FieldRule.over {v = v} f r h) = field-refused s last w at f (rw (over_judged w at v r h)) refl
  rule_refuses (FieldRule.stop {v = v} {ending = ending} f m h) =
      let misses : fits last ending ≡ false = by_test (fits last ending) (λ t. absurd (h (says_fit last ending t))) (λ f. f) in
      field-refused s last w at f (rw (may_good w at v m, misses)) refl

  -- a refusal by one rule is that rule's
  one-rule : {u : Verdict} (v : Verdict) → FieldRule s last w at u → text_field last s w at ≡ stop v → FieldRule s last w at v
  one-rule {u} v r e = let e' = rule_refuses r in let same : u ≡ v = cc in subst (FieldRule s last w at) same r

  -- a fault of text is one of the first two
  text-rule : (u : Verdict) → text_at s at ≡ stop u → FieldRule s last w at u
  text-rule u e =
      let q = stops_at s at u inside e in
      let none = stopped_no_field s at u e in
      rw q.says
      (⊎_elim (λ h. FieldRule.byte none h q.stuck.can (q.stuck.cannot h)) (λ h. cut none q.stuck h)
      (either q.n (length (drop at s))))
    where
      cut : {n : ℕ} → NoField s at → Stuck (drop at s) n → length (drop at s) ≤ n → FieldRule s last w at (C.BadText (at + n))
      cut {n} none p h =
          let all : n ≡ length (drop at s) = omega (arith, p.few) in
          let end : at + n ≡ length s = omega (arith, length-drop at s) in
          let whole : take n (drop at s) ≡ drop at s = rw all (take-length (drop at s)) in
          rw end (FieldRule.cut none (rw whole at p.can))

  -- each refusal is by a rule
  pub refused-rule : (u : Verdict) → text_field last s w at ≡ stop u → FieldRule s last w at u
  refused-rule u e =
      ⊎_elim (λ r. one-rule u (text-rule r.0 r.1) e)
      (λ r. let f = text_field_lem s at r.0 r.1 r.2 in of_judged f.2 (judged w f.0))
      (stopped_or-not (text_at s at))
    where
      of_judged : {v end next : ℕ} {ending : Ending} → FieldStands s at v ending end next → Judged w v → FieldRule s last w at u
      of_judged f (Judged.out n) = one-rule u (FieldRule.out f n) e
      of_judged f (Judged.over r h) = one-rule u (FieldRule.over f r h) e
      of_judged {ending = ending} f (Judged.may m) =
          by_test (fits last ending)
          (λ t.
          stopped_not (text_field last s w at) e
          (holds_read s last w at (record { ending = ending; end = _; stands = f; may = m; fits = says_fit last ending t })))
          (λ b. one-rule u (FieldRule.stop f m (λ h. never (fit_says last ending h) b)) e)
