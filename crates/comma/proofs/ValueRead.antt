-- A field's number and what ends it are read exactly where they stand, and where reading stops the front of one stands. Assumes nothing.
use Prim.Native.Nat.{ℕ, suc, ◌+◌, ◌≤◌, ◌<◌}
use native.Mathlib.Omega.{arith}
use borrow.Author.Tests.{eqb-true, eqb-false, ne_eqb}
use mathlib.Core.Path.{◌≡◌, refl, sym, ap, ◌∙◌}
use mathlib.Core.Logic.{◌⊎◌, inl, inr, ⊎_elim}
use mathlib.Core.List.{List, [], ◌∷◌, ◌++◌, append_assoc}
use lib.ListN.{length, get_or, drop, drop_of_length-le}
use lib.Seq.{drop-cons}
use lib.Dec.{eqb}
use Rattle.lists.proofs.Tests.{either, by_test}
use Rattle.lists.proofs.Drops.{some_within}
use Rattle.text.specs.Text.{line_feed, decimal}
use Rattle.text.specs.Numerals.{is_digit, digits_in, numeral}
use Rattle.text.proofs.Decimals.{decimal-one}
use Rattle.text.proofs.Numerals.{Shortest, digits_front, digits_all, digits_at, digits_decimal, digit_says, decimal_digits, decimal_first}
use Rattle.text.proofs.Numerals.{decimal-numeral, numeral-decimal}
use Rattle.table.specs.declared.Verdict.TheVariants.{BadText}
use Rattle.fields.specs.Stepping.{Step, stop, go, ◌then◌}
use Rattle.fields.proofs.Taken.{stopped_not, Between, none_between, between-here, between_first, split_between, both_between}
use Rattle.fields.specs.declared.Ending.{Ending}
use Rattle.fields.specs.declared.Ending.TheVariants.{Comma, Line, Text}
use Rattle.fields.specs.TextFields.{comma, quote, carriage_return, shortest, decimal_at, closed_at, value_at, ending_at}
use Rattle.comma.specs.Writing.{line_end}
use Rattle.fields.proofs.Valued.{closes, stays_open, unquoted, inner, at-text-end, at-comma, at_other, at_return, at-line_end}

-- ---- what stands in a text

-- a number between two quotes
abbrev pub quoted : ℕ → List ℕ
quoted v = (quote ∷ decimal v) ++ (quote ∷ [])

-- a number that stands there, bare or quoted
abbrev pub Value : List ℕ → ℕ → ℕ → ℕ → Type 0
Value s at v n = Between s at (decimal v) n ⊎ Between s at (quoted v) n

-- the bytes that end a field: a comma, a line end, or none at the text's end
abbrev pub end_bytes : Ending → List ℕ
end_bytes Comma = comma ∷ []
end_bytes Line = line_end
end_bytes Text = []

-- they stand there, and none only at the text's end
pub record Ends (s : List ℕ) (at : ℕ) (ending : Ending) (n : ℕ) : Type 0 where
  pub bytes : Between s at (end_bytes ending) n
  pub last : ending ≡ Text → length s ≤ at

module _ (s : List ℕ) (at : ℕ) where
  -- a byte other than 0
  byte_between : (b : ℕ) → 0 < b → get_or s at 0 ≡ b → Between s at (b ∷ []) (at + 1)
  byte_between b some e =
      let next : suc at ≡ at + 1 = omega arith in
      record { stand = drop-cons s at 0 (some_within s at b e some) ∙ rw (e, next); past = refl }

  -- the digits there
  digits_between : (ds : List ℕ) → digits_in (drop at s) ≡ ds → Between s at ds (at + length ds)
  digits_between ds e = between-here ds (drop (length ds) (drop at s)) (rw e at (digits_front (drop at s)))

-- ---- what is read of it

-- bytes that are the front of a form
pub record FrontOf {A : Type 0} (form : A → List ℕ) (front : List ℕ) : Type 0 where
  pub what : A
  pub more : List ℕ
  pub whole : front ++ more ≡ form what

-- what a step shows: what was read stands there in its form, and P holds; or the front of one up to where reading stopped
pub data Shown {A : Type 0} (form : A → List ℕ) (P : A → Type 0) (s : List ℕ) (at : ℕ) : Step A → Type 0 where
  got : {a : A} {end : ℕ} → Between s at (form a) end → P a → Shown form P s at (go a end)
  bad : {k : ℕ} {front : List ℕ} → Between s at front k → FrontOf form front → Shown form P s at (stop (BadText k))

-- where something was read it stands there
shown_read : {A : Type 0} {form : A → List ℕ} {P : A → Type 0} {s : List ℕ} {at : ℕ} {x : Step A} (a : A) (n : ℕ) → Shown form P s at x
    → x ≡ go a n → Between s at (form a) n × P a
shown_read a n (Shown.bad b f) e = stopped_not _ refl e
shown_read a n (Shown.got {a = c} {end = m} b p) e =
    let same : c ≡ a = cc in
    let place : m ≡ n = cc in
    rw (← same, ← place) (b, p)

-- a number and no more
abbrev pub Numbers : (ℕ → List ℕ) → List ℕ → ℕ → Step ℕ → Type 0
Numbers form = Shown form (λ v. Unit {0})

-- a number
decimal_shown : (s : List ℕ) (at : ℕ) → Numbers decimal s at (decimal_at s at)
unfolding decimal_at shortest
decimal_shown s at = by (digits_in (drop at s)) refl
  where
    own : (ds : List ℕ) → digits_in (drop at s) ≡ ds → Shortest ds → Between s at (decimal (numeral ds)) (at + length ds)
    own ds e h =
        let digits : digits_in ds ≡ ds = rw e at (digits_all (drop at s)) in
        rw (decimal-numeral ds digits h) (digits_between s at ds e)

    by : (ds : List ℕ) → digits_in (drop at s) ≡ ds → Numbers decimal s at (shortest ds at)
    by [] e = Shown.bad (none_between s at) (record { what = 0; more = decimal 0; whole = refl })
    by (d ∷ []) e = Shown.got (own (d ∷ []) e (record { some = omega arith; alone = λ q. refl })) tt
    by (d ∷ c ∷ ds) e =
        by_test (eqb d 48)
        (λ t.
        let zero : d ∷ [] ≡ decimal 0 = rw (eqb-true d 48 t, decimal-one 0 (omega arith)) in
        let front = (split_between (d ∷ []) (c ∷ ds) (digits_between s at (d ∷ c ∷ ds) e)).0 in
        rw t (Shown.bad front (record { what = 0; more = []; whole = zero })))
        (λ f. rw f (Shown.got (own (d ∷ c ∷ ds) e (record { some = omega arith; alone = λ q. absurd (eqb-false d 48 f q) })) tt))

-- a number behind a quote, and the quote that closes it
quoted_shown : (s : List ℕ) (at : ℕ) → get_or s at 0 ≡ quote → {x : Step ℕ} → Numbers decimal s (at + 1) x
    → Numbers quoted s at (x then λ value at. closed_at s value at)
unfolding ◌then◌
quoted_shown s at opens (Shown.bad {k} {front} b f) =
    let whole : front ++ (f.more ++ (quote ∷ [])) ≡ decimal f.what ++ (quote ∷ [])
    = sym (append_assoc front f.more (quote ∷ [])) ∙ ap (λ l. l ++ (quote ∷ [])) f.whole in
    Shown.bad (both_between s at (at + 1) k (quote ∷ []) front (byte_between s at quote (omega arith) opens) b)
    (record { what = f.what; more = f.more ++ (quote ∷ []); whole = ap (◌∷◌ quote) whole })
quoted_shown s at opens (Shown.got {a = v} {end = m} b p) =
    let number = both_between s at (at + 1) m (quote ∷ []) (decimal v) (byte_between s at quote (omega arith) opens) b in
    by_test (eqb (get_or s m 0) quote)
    (λ t.
    let here : get_or s m 0 ≡ quote = eqb-true _ _ t in
    let closed = byte_between s m quote (omega arith) here in
    rw (closes s v m here) (Shown.got (both_between s at m (m + 1) (quote ∷ decimal v) (quote ∷ []) number closed) tt))
    (λ t. rw (stays_open s v m (eqb-false _ _ t)) (Shown.bad number (record { what = v; more = quote ∷ []; whole = refl })))

-- a field's number, in either form
pub value_shown : (s : List ℕ) (at : ℕ) → Numbers decimal s at (value_at s at) ⊎ Numbers quoted s at (value_at s at)
value_shown s at =
    by_test (eqb (get_or s at 0) quote)
    (λ t.
    let opens : get_or s at 0 ≡ quote = eqb-true _ _ t in
    inr (rw (inner s at opens) (quoted_shown s at opens (decimal_shown s (at + 1)))))
    (λ t. inl (rw (unquoted s at (eqb-false _ _ t)) (decimal_shown s at)))

-- so where it was read it stands there
pub value_read : (s : List ℕ) (at v n : ℕ) → value_at s at ≡ go v n → Value s at v n
value_read s at v n e = ⊎_elim (λ w. inl (shown_read v n w e).0) (λ w. inr (shown_read v n w e).0) (value_shown s at)

-- bytes are not none
pub not-text : {ending : Ending} {A : Type 0} → 0 < length (end_bytes ending) → ending ≡ Text → A
not-text {ending} some e = absurd (omega (arith, ap (λ x. length (end_bytes x)) e))

-- what ends a field
pub ending_shown : (s : List ℕ) (at : ℕ) → Shown end_bytes (λ ending. ending ≡ Text → length s ≤ at) s at (ending_at s at)
ending_shown s at =
    ⊎_elim
    (λ h.
    by_test (eqb (get_or s at 0) comma)
    (λ t.
    let here : get_or s at 0 ≡ comma = eqb-true _ _ t in
    rw (at-comma s at h here)
    (Shown.got {a = Comma} (byte_between s at comma (omega arith) here) (not-text {ending = Comma} (omega arith))))
    (λ t. by_test (eqb (get_or s at 0) carriage_return) (λ u. return h (eqb-false _ _ t) (eqb-true _ _ u))
    (λ u.
    rw (at_other s at h (eqb-false _ _ t) (eqb-false _ _ u))
    (Shown.bad (none_between s at) (record { what = Text; more = []; whole = refl })))))
    (λ past. rw (at-text-end s at past) (Shown.got {a = Text} (none_between s at) (λ e. past)))
    (either at (length s))
  where
    return : at < length s → (get_or s at 0 ≡ comma → ⊥) → get_or s at 0 ≡ carriage_return
        → Shown end_bytes (λ ending. ending ≡ Text → length s ≤ at) s at (ending_at s at)
    return h other here =
        let front = byte_between s at carriage_return (omega arith) here in
        by_test (eqb (get_or s (at + 1) 0) line_feed)
        (λ t.
        let feeds : get_or s (at + 1) 0 ≡ line_feed = eqb-true _ _ t in
        let next : at + 1 + 1 ≡ at + 2 = omega arith in
        let feed : Between s (at + 1) (line_feed ∷ []) (at + 2) = rw next at (byte_between s (at + 1) line_feed (omega arith) feeds) in
        rw (at-line_end s at h other here feeds)
        (Shown.got {a = Line} (both_between s at (at + 1) (at + 2) (carriage_return ∷ []) (line_feed ∷ []) front feed)
        (not-text {ending = Line} (omega arith))))
        (λ t.
        rw (at_return s at h other here (eqb-false _ _ t))
        (Shown.bad front (record { what = Line; more = line_feed ∷ []; whole = refl })))

-- so where it was read it stands there
pub ending-read : (s : List ℕ) (at : ℕ) (ending : Ending) (n : ℕ) → ending_at s at ≡ go ending n → Ends s at ending n
ending-read s at ending n e = let r = shown_read ending n (ending_shown s at) e in record { bytes = r.0; last = r.1 }

-- ---- what stands there is read

-- digits with no zeros in front
shortest-here : (ds : List ℕ) (at : ℕ) → Shortest ds → shortest ds at ≡ go (numeral ds) (at + length ds)
unfolding shortest
shortest-here [] at s = absurd (omega (arith, s.some))
shortest-here (d ∷ []) at s = refl
shortest-here (d ∷ e ∷ ds) at s = rw (ne_eqb d 48 (λ z. omega (arith, s.alone z)))

module _ {s : List ℕ} {at n : ℕ} (v : ℕ) (k : Between s at (decimal v) n) where
  -- a number with no digit behind it
  decimal-here : digits_in (drop n s) ≡ [] → decimal_at s at ≡ go v n
  unfolding decimal_at
  decimal-here none =
      let digits : digits_in (drop at s) ≡ decimal v = ap digits_in k.stand ∙ digits_decimal v (drop n s) none in
      rw (digits, shortest-here (decimal v) at (decimal_first v), numeral-decimal v, k.past)

  -- begins with no quote
  no_quote : get_or s at 0 ≡ quote → ⊥
  no_quote e =
      let some = (decimal_first v).some in
      let digit = digit_says (get_or (decimal v) 0 0) (digits_at (decimal v) (decimal_digits v) 0 some) in
      omega (arith, digit.0, between_first some k)

-- a field's number with no digit behind it
value-here : {s : List ℕ} {at v n : ℕ} → Value s at v n → digits_in (drop n s) ≡ [] → value_at s at ≡ go v n
unfolding digits_in is_digit ◌then◌
value-here {s} {at} {v} (inl k) none = unquoted s at (no_quote v k) ∙ decimal-here v k none
value-here {s} {at} {v} {n} (inr k) none =
    let parts = split_between (decimal v) (quote ∷ []) (split_between (quote ∷ []) (decimal v ++ (quote ∷ [])) k).1 in
    let m = at + 1 + length (decimal v) in
    let behind : digits_in (drop m s) ≡ [] = ap digits_in parts.1.stand in
    rw (inner s at (between_first (omega arith) k), decimal-here v parts.0 behind)
    (closes s v m (between_first (omega arith) parts.1) ∙ ap (go v) (sym parts.1.past))

module _ {s : List ℕ} {at n : ℕ} where
  -- what ends it
  pub ending_here : (ending : Ending) → Ends s at ending n → ending_at s at ≡ go ending n
  ending_here Comma k =
      let here = between_first (omega arith) k.bytes in
      at-comma s at (some_within s at comma here (omega arith)) here ∙ ap (go Comma) (sym k.bytes.past)
  ending_here Line k =
      let here = between_first (omega arith) k.bytes in
      let feed = (split_between (carriage_return ∷ []) (line_feed ∷ []) k.bytes).1 in
      at-line_end s at (some_within s at carriage_return here (omega arith)) (λ e. omega arith) here (between_first (omega arith) feed)
      ∙ ap (go Line) (sym k.bytes.past)
  ending_here Text k = at-text-end s at (k.last refl) ∙ ap (go Text) (omega (arith, k.bytes.past))

  -- no digit begins it
  ends_plain : (ending : Ending) → Ends s at ending n → digits_in (drop at s) ≡ []
  unfolding digits_in is_digit
  ends_plain Comma k = ap digits_in k.bytes.stand
  ends_plain Line k = ap digits_in k.bytes.stand
  ends_plain Text k = ap digits_in (drop_of_length-le s (k.last refl))

-- so a field's number is read where what ends it stands behind it
pub value_ended : {s : List ℕ} {at v end n : ℕ} {ending : Ending} → Value s at v end → Ends s end ending n → value_at s at ≡ go v end
value_ended {ending = ending} k e = value-here k (ends_plain ending e)
