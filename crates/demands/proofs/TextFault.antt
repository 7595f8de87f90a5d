-- Where reading a field's text stops, the bytes before can go on and the byte there cannot. Assumes nothing.
use Prim.Native.Nat.{ℕ, suc, ◌+◌, ◌≤◌, ◌<◌}
use native.Mathlib.Omega.{arith}
use borrow.Author.Tests.{lt-ltb, eqb-true}
use mathlib.Core.Path.{◌≡◌, refl, sym, ap, ◌∙◌}
use mathlib.Core.Logic.{⊎_elim}
use mathlib.Core.Bool.{true, false}
use mathlib.Core.List.{List, [], ◌∷◌, ◌++◌, append_assoc, append-nil}
use lib.ListN.{length, take, drop, get_or, length-append, drop_of_length-le, get_or-append}
use lib.Seq.{drop_at, length-take-le, take-add, get_or-take}
use lib.Dec.{eqb, ltb}
use Rattle.lists.proofs.Tests.{by_test}
use Rattle.text.specs.Text.{line_feed, decimal}
use Rattle.text.specs.Numerals.{is_digit, digits_in}
use Rattle.table.specs.declared.Verdict.{Verdict}
use Rattle.table.specs.declared.Verdict.TheVariants.{BadText}
use Rattle.table.specs.Verdicts.{number_of}
use Rattle.fields.specs.Stepping.{Step, stop, go, ◌then◌}
use Rattle.fields.proofs.Taken.{stopped_not, Between, both_between}
use Rattle.fields.specs.declared.Ending.{Ending}
use Rattle.fields.specs.declared.Ending.TheVariants.{Text}
use Rattle.fields.specs.TextFields.{comma, quote, carriage_return, stands_at, shortest, decimal_at, closed_at, value_at, ending_at}
use Rattle.fields.proofs.Digits.{digits_more, digits_none, digit_first, no_digit_first}
use Rattle.comma.proofs.ValueRead.{Shown, Numbers, value_shown, ending_shown, value_ended, ending_here, end_bytes, quoted}
use Rattle.demands.specs.TextReached.{FieldText, stop_bytes, FieldStands, NoField, CanGoOn}
use Rattle.demands.proofs.TextField.{field-parts}

-- ---- up to there bytes can go on

-- a field's text up to its stop
unfoldable pub text_at : List ℕ → ℕ → Step Ending
text_at s at = value_at s at then λ value end. ending_at s end

-- a field that stands there is read up to its stop
field-text : {s : List ℕ} {at v end next : ℕ} {ending : Ending} → FieldStands s at v ending end next → text_at s at ≡ go ending next
unfolding text_at ◌then◌
field-text {ending = ending} f = let p = field-parts f in rw (value_ended p.value p.ends) (ending_here ending p.ends)

-- where reading stops no field stands
pub stopped_no_field : (s : List ℕ) (at : ℕ) (u : Verdict) → text_at s at ≡ stop u → NoField s at
stopped_no_field s at u e v ending end next f = stopped_not (text_at s at) e (field-text f)

-- a fault of text at k: the bytes before it can go on
pub record TextFault (s : List ℕ) (at : ℕ) (u : Verdict) : Type 0 where
  pub k : ℕ
  pub says : u ≡ BadText k
  pub front : List ℕ
  pub before : Between s at front k
  pub can : CanGoOn front

module _ {s : List ℕ} {at : ℕ} {u : Verdict} where
  -- in the stop
  ending_fault : {v end : ℕ} {text : List ℕ} {P : Ending → Type 0} {y : Step Ending} → FieldText v text → Between s at text end
      → Shown end_bytes P s end y → y ≡ stop u → TextFault s at u
  ending_fault t b (Shown.got c p) e = stopped_not _ e refl
  ending_fault {v} {end} {text} t b (Shown.bad {k} {front} c f) e =
      let whole : (text ++ front) ++ f.more ≡ text ++ stop_bytes f.what
      = append_assoc text front f.more ∙ ap (◌++◌ text) f.whole in
      record {
        k = k;
        says = cc;
        front = text ++ front;
        before = both_between s at end k text front b c;
        can = record { more = f.more; v = v; ending = f.what; text = text; field = t; whole = whole };
      }

  -- in the number or in the stop
  value-fault : {x : Step ℕ} (form : ℕ → List ℕ) → ((v : ℕ) → FieldText v (form v)) → Numbers form s at x
      → (x then λ value end. ending_at s end) ≡ stop u → TextFault s at u
  unfolding ◌then◌
  value-fault form text (Shown.got {a = v} {end = m} b p) e = ending_fault (text v) b (ending_shown s m) e
  value-fault form text (Shown.bad {k} {front} b f) e =
      let can : CanGoOn front = record {
        more = f.more;
        v = f.what;
        ending = Text;
        text = form f.what;
        field = text f.what;
        whole = f.whole ∙ sym (append-nil (form f.what));
      } in
      record { k = k; says = cc; front = front; before = b; can = can }

  -- so where reading stops is a fault of text
  pub text-fault : text_at s at ≡ stop u → TextFault s at u
  unfolding text_at
  text-fault e =
      ⊎_elim (λ w. value-fault decimal (λ v. FieldText.plain) w e) (λ w. value-fault quoted (λ v. FieldText.quoted) w e) (value_shown s at)

-- ---- and no further

-- two texts have the same bytes up to the one at k
record Same (s z : List ℕ) (k : ℕ) : Type 0 where
  inside : k < length s
  within : k < length z
  bytes : (i : ℕ) → i ≤ k → get_or z i 0 ≡ get_or s i 0

-- the last byte that a step looks at
abbrev reach : {A : Type 0} → Step A → ℕ
reach (stop v) = number_of v
reach (go a next) = next

-- from its place on
shown_reach : {A : Type 0} {form : A → List ℕ} {P : A → Type 0} {s : List ℕ} {at : ℕ} {x : Step A}
    → Shown form P s at x → at ≤ reach x
shown_reach (Shown.got b p) = omega (arith, b.past)
shown_reach (Shown.bad b f) = omega (arith, b.past)

-- first one thing, then another: the same within reach where each is
then_same : {A B : Type 0} (k : ℕ) (x y : Step A) (f g : A → ℕ → Step B) → (reach x ≤ k → y ≡ x)
    → ((a : A) (m : ℕ) → reach (f a m) ≤ k → (m ≤ k) × (g a m ≡ f a m)) → reach (x then f) ≤ k → (y then g) ≡ (x then f)
unfolding ◌then◌
then_same k (stop v) y f g h q r = rw (h r)
then_same k (go a m) y f g h q r = let p = q a m r in rw (h p.0) p.1

module _ {s z : List ℕ} {k : ℕ} (same : Same s z k) where
  -- a byte
  stands_same : (b i : ℕ) → i ≤ k → stands_at b z i ≡ stands_at b s i
  unfolding stands_at
  stands_same b i h = ap (λ x. eqb x b) (same.bytes i h)

  -- digits
  digits_same : (ds : List ℕ) (p : ℕ) → digits_in (drop p s) ≡ ds → p + length ds ≤ k → digits_in (drop p z) ≡ ds
  digits_same [] p e h = digits_none z p (ap is_digit (same.bytes p (omega arith)) ∙ no_digit_first s p e)
  digits_same (d ∷ ds) p e h =
      let f = digit_first s p d ds e in
      let byte : get_or z p 0 ≡ get_or s p 0 = same.bytes p (omega arith) in
      digits_more z p (ap is_digit byte ∙ f.digit) ∙ rw (byte, f.byte, digits_same ds (p + 1) f.others (omega arith))

  -- a zero and a digit behind it
  zero_same : (at c : ℕ) (ds : List ℕ) → digits_in (drop at s) ≡ 48 ∷ c ∷ ds → at + 1 ≤ k
      → decimal_at z at ≡ stop (BadText (at + 1))
  unfolding decimal_at shortest
  zero_same at c ds e h =
      let f = digit_first s at 48 (c ∷ ds) e in
      let g = digit_first s (at + 1) c ds f.others in
      let byte : get_or z at 0 ≡ get_or s at 0 = same.bytes at (omega arith) in
      let behind : is_digit (get_or z (at + 1) 0) ≡ true = ap is_digit (same.bytes (at + 1) h) ∙ g.digit in
      rw (digits_more z at (ap is_digit byte ∙ f.digit), digits_more z (at + 1) behind, byte, f.byte)

  -- a number
  decimal_same : (at : ℕ) → reach (decimal_at s at) ≤ k → decimal_at z at ≡ decimal_at s at
  unfolding decimal_at shortest
  decimal_same at h = by (digits_in (drop at s)) refl h
    where
      all : (ds : List ℕ) → digits_in (drop at s) ≡ ds → at + length ds ≤ k → shortest (digits_in (drop at z)) at ≡ shortest ds at
      all ds e h = ap (λ l. shortest l at) (digits_same ds at e h)

      by : (ds : List ℕ) → digits_in (drop at s) ≡ ds → reach (shortest ds at) ≤ k → shortest (digits_in (drop at z)) at ≡ shortest ds at
      by [] e h = all [] e (omega arith)
      by (d ∷ []) e h = all (d ∷ []) e h
      by (d ∷ c ∷ ds) e h =
          by_test (eqb d 48) (λ t. rw t (zero_same at c ds (rw (eqb-true d 48 t) at e) (rw t at h)))
          (λ f. all (d ∷ c ∷ ds) e (rw f at h))

  -- the quote that closes it
  closed_same : (value at : ℕ) → reach (closed_at s value at) ≤ k → (at ≤ k) × (closed_at z value at ≡ closed_at s value at)
  unfolding closed_at
  closed_same value at h =
      let near : at ≤ k
      = by_test (stands_at quote s at) (λ t. let r : at + 1 ≤ k = rw t at h in omega arith) (λ f. rw f at h) in
      (near, rw (stands_same quote at near))

  -- a field's number
  value_same : (at : ℕ) → at ≤ k → reach (value_at s at) ≤ k → value_at z at ≡ value_at s at
  unfolding value_at
  value_same at near h =
      by_test (stands_at quote s at)
      (λ t.
      rw (stands_same quote at near, t)
      (then_same k (decimal_at s (at + 1)) (decimal_at z (at + 1)) _ _ (decimal_same (at + 1)) closed_same (rw t at h)))
      (λ f. rw (stands_same quote at near, f) (decimal_same at (rw f at h)))

  -- its stop
  ending_same : (at : ℕ) → reach (ending_at s at) ≤ k → (at ≤ k) × (ending_at z at ≡ ending_at s at)
  unfolding ending_at
  ending_same at h =
      let near : at ≤ k = omega (arith, shown_reach (ending_shown s at)) in
      let t : ltb at (length s) ≡ true = lt-ltb at (length s) (omega (arith, same.inside)) in
      let u : ltb at (length z) ≡ true = lt-ltb at (length z) (omega (arith, same.within)) in
      let feed : stands_at comma s at ≡ false → stands_at carriage_return s at ≡ true → at + 1 ≤ k
      = λ c r. by_test (stands_at line_feed s (at + 1)) (λ l. let far : at + 2 ≤ k = rw (t, c, r, l) at h in omega arith)
      (λ l. rw (t, c, r, l) at h) in (
        near,
        rw (t, u, stands_same comma at near, stands_same carriage_return at near)
            (by_test (stands_at comma s at) (λ c. rw c)
            (λ c. by_test (stands_at carriage_return s at) (λ r. rw (c, r, stands_same line_feed (at + 1) (feed c r))) (λ r. rw (c, r)))),
      )

  -- so a field's text
  text_same : (at : ℕ) → at ≤ k → reach (text_at s at) ≤ k → text_at z at ≡ text_at s at
  unfolding text_at
  text_same at near h = then_same k (value_at s at) (value_at z at) _ _ (value_same at near) (λ v. ending_same) h

-- with some bytes behind them, bytes that can go on stand from a place on as a field
record GoesOn (s : List ℕ) (at n : ℕ) : Type 0 where
  z : List ℕ
  same : Same s z (at + n)
  ending : Ending
  next : ℕ
  read : text_at z at ≡ go ending next

-- so they do
goes_on : (s : List ℕ) (at n : ℕ) → at + n < length s → CanGoOn (take (suc n) (drop at s)) → GoesOn s at n
goes_on s at n h c =
    let bytes = c.text ++ stop_bytes c.ending in
    let z = take at s ++ bytes in
    let end = at + length c.text in
    let next = end + length (stop_bytes c.ending) in
    let before : length (take at s) ≡ at = length-take-le at s (omega arith) in
    let long : length z ≡ next = length-append (take at s) bytes ∙ omega (arith, length-append c.text (stop_bytes c.ending)) in
    let past : length z ≤ next = omega arith in
    let none : drop next z ≡ [] = drop_of_length-le z past in
    let count : suc (at + n) ≡ at + suc n = omega arith in
    let cut : take (suc (at + n)) s ≡ take at s ++ take (suc n) (drop at s) = rw count (take-add at (suc n) s) in
    let whole : z ≡ take (suc (at + n)) s ++ c.more = rw (cut, append_assoc, c.whole) in
    let m = suc (at + n) in
    let front : length (take m s) ≡ m = length-take-le m s h in
    let byte : (i : ℕ) → i ≤ at + n → get_or (take m s ++ c.more) i 0 ≡ get_or s i 0
    = λ i low. get_or-append (take m s) c.more 0 i (omega arith) ∙ get_or-take m s i 0 (omega arith) in
    let field : FieldStands z at c.v c.ending end next
    = record {
      text = c.text;
      field = c.field;
      stand = drop_at (take at s) bytes at before ∙ rw (none, append-nil);
      stop = refl;
      past = refl;
      text_end = λ e. omega arith;
    } in
    record {
      z = z;
      same = record { inside = h; within = rw (whole, length-append) (omega arith); bytes = λ i low. rw whole (byte i low) };
      ending = c.ending;
      next = next;
      read = field-text field;
    }

-- a byte where reading stops cannot go on
pub cannot_go_on : (s : List ℕ) (at n : ℕ) → text_at s at ≡ stop (BadText (at + n)) → at + n < length s
    → CanGoOn (take (suc n) (drop at s)) → ⊥
cannot_go_on s at n e h c =
    let g = goes_on s at n h c in
    let near : reach (text_at s at) ≤ at + n = rw e (omega arith) in
    stopped_not (text_at g.z at) (text_same g.same at (omega arith) near ∙ e) g.read
