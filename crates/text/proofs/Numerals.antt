-- Digits read and numbers printed belong to each other. Assumes nothing.
use Prim.Native.Nat.{ℕ, zero, suc, ◌+◌, ◌-◌, ◌*◌, ◌/◌, ◌%◌, ◌≤◌, ◌<◌}
use native.Mathlib.Omega.{arith}
use borrow.Author.Tests.{ltb-true, lt-ltb}
use mathlib.Core.Path.{◌≡◌, refl, sym, ap, ◌∙◌}
use mathlib.Core.Bool.{true}
use mathlib.Core.Logic.{⊎_elim}
use mathlib.Core.List.{List, [], ◌∷◌, ◌++◌, append_assoc, append-nil}
use lib.ListN.{length, get_or, drop, length-append, get_or-append}
use lib.Dec.{ltb}
use Rattle.lists.proofs.Tests.{by_test, never, either}
use Rattle.text.specs.Text.{digit, decimal}
use Rattle.text.specs.Numerals.{is_digit, digits_in, numeral_from, numeral}
use Rattle.text.proofs.Decimals.{decimal-one, decimal_more}

-- no zeros in front: there is a digit, and if the first is 0 it is alone
pub record Shortest (ds : List ℕ) : Type 0 where
  pub some : 0 < length ds
  pub alone : get_or ds 0 0 ≡ 48 → length ds ≡ 1

-- ---- digits

-- a digit's code is one of 48 to 57
pub digit_says : (b : ℕ) → is_digit b ≡ true → (47 < b) × (b < 58)
unfolding is_digit
digit_says b h =
    by_test (ltb 47 b) (λ e. (ltb-true 47 b e, ltb-true b 58 (rw e at h)))
    (λ e. absurd (never h (rw e)))

-- and each of these is a digit's
pub is_digit_lem : (b : ℕ) → 47 < b → b < 58 → is_digit b ≡ true
unfolding is_digit
is_digit_lem b h g = rw (lt-ltb 47 b h, lt-ltb b 58 g)

-- bytes that are digits: the first and the others
pub digits_cons : (d : ℕ) (ds : List ℕ) → digits_in (d ∷ ds) ≡ d ∷ ds → (is_digit d ≡ true) × (digits_in ds ≡ ds)
unfolding digits_in
digits_cons d ds h =
    by_test (is_digit d) (λ e. (e, let same : d ∷ digits_in ds ≡ d ∷ ds = rw e at h in cc))
    (λ e. absurd (let none : [] ≡ d ∷ ds = rw e at h in let z : ◌≡◌ {A = ℕ} 0 1 = cc in omega arith))

-- digits, and those in front of what stands behind them
pub digits_append : (ds rest : List ℕ) → digits_in ds ≡ ds → digits_in (ds ++ rest) ≡ ds ++ digits_in rest
unfolding digits_in
digits_append [] rest h = refl
digits_append (d ∷ ds) rest h = let c = digits_cons d ds h in rw (c.0, digits_append ds rest c.1)

-- bytes are the digits in front and the bytes behind these
pub digits_front : (bs : List ℕ) → bs ≡ digits_in bs ++ drop (length (digits_in bs)) bs
unfolding digits_in
digits_front [] = refl
digits_front (b ∷ bs) = by_test (is_digit b) (λ e. rw e (ap (◌∷◌ b) (digits_front bs))) (λ e. rw e)

-- the digits in front are digits
pub digits_all : (bs : List ℕ) → digits_in (digits_in bs) ≡ digits_in bs
unfolding digits_in
digits_all [] = refl
digits_all (b ∷ bs) = by_test (is_digit b) (λ e. rw (e, e, digits_all bs)) (λ e. rw e)

-- of bytes that are digits, so is each
pub digits_at : (ds : List ℕ) → digits_in ds ≡ ds → (i : ℕ) → i < length ds → is_digit (get_or ds i 0) ≡ true
digits_at [] h i low = absurd (omega arith)
digits_at (d ∷ ds) h zero low = (digits_cons d ds h).0
digits_at (d ∷ ds) h (suc i) low = digits_at ds (digits_cons d ds h).1 i (omega arith)

-- ---- numbers

-- the number that digits make, and digits behind them
pub numeral-append : (value : ℕ) (ds es : List ℕ) → numeral_from value (ds ++ es) ≡ numeral_from (numeral_from value ds) es
unfolding numeral_from
numeral-append value [] es = refl
numeral-append value (d ∷ ds) es = numeral-append (10 * value + (d - 48)) ds es

-- what holds of the numbers below 10, and of a number if of its tenth, holds of all
by_tenths : (P : ℕ → Type 0) → ((n : ℕ) → n < 10 → P n) → ((n : ℕ) → 10 ≤ n → P (n / 10) → P n) → (n : ℕ) → P n
by_tenths P low high n = below (suc n) n (omega arith)
  where
    below : (k n : ℕ) → n < k → P n
    below zero n h = absurd (omega arith)
    below (suc k) n h = ⊎_elim (λ l. low n l) (λ g. high n g (below k (n / 10) (omega arith))) (either n 10)

-- a number is read as it is printed
pub numeral-decimal : (n : ℕ) → numeral (decimal n) ≡ n
unfolding numeral_from
numeral-decimal =
    by_tenths (λ n. numeral (decimal n) ≡ n) (λ n low. rw (decimal-one n low) (omega arith))
    (λ n high h.
    rw (decimal_more n high, numeral-append 0 (decimal (n / 10)) (digit (n % 10) ∷ []), h)
    (omega arith))

-- it is printed in digits
pub decimal_digits : (n : ℕ) → digits_in (decimal n) ≡ decimal n
unfolding digits_in
decimal_digits =
    by_tenths (λ n. digits_in (decimal n) ≡ decimal n)
    (λ n low. rw (decimal-one n low, is_digit_lem (digit n) (omega arith) (omega arith)))
    (λ n high h.
    rw (decimal_more n high)
    (digits_append (decimal (n / 10)) (digit (n % 10) ∷ []) h ∙ rw (is_digit_lem (digit (n % 10)) (omega arith) (omega arith))))

-- which are those in front of it and what stands behind it, if none stands there
pub digits_decimal : (n : ℕ) (rest : List ℕ) → digits_in rest ≡ [] → digits_in (decimal n ++ rest) ≡ decimal n
digits_decimal n rest none = digits_append (decimal n) rest (decimal_digits n) ∙ rw (none, append-nil)

-- at least one digit, and that of a number from 1 on begins with no 0
record Begins (n : ℕ) : Type 0 where
  some : 0 < length (decimal n)
  first : 0 < n → 48 < get_or (decimal n) 0 0

-- so begins every number
begins : (n : ℕ) → Begins n
begins =
    by_tenths Begins
    (λ n low. record { some = rw (decimal-one n low) (omega arith); first = λ h. rw (decimal-one n low) (omega arith) })
    (λ n high h.
    let last = digit (n % 10) ∷ [] in
    record {
      some = rw (decimal_more n high, length-append (decimal (n / 10)) last) (omega arith);
      first = λ _. rw (decimal_more n high, get_or-append (decimal (n / 10)) last 0 0 h.some) (h.first (omega arith));
    })

-- a number is printed with no zeros in front
pub decimal_first : (n : ℕ) → Shortest (decimal n)
decimal_first n =
    record {
      some = (begins n).some;
      alone =
          λ e.
          ⊎_elim (λ low. rw (decimal-one n low)) (λ high. absurd (omega (arith, (begins n).first (omega arith)))) (either n 10);
    }

-- and ends with a digit
pub decimal-end : (n : ℕ) → 48 ≤ get_or (decimal n) (length (decimal n) - 1) 0
decimal-end n =
    let at = length (decimal n) - 1 in
    (digit_says (get_or (decimal n) at 0) (digits_at (decimal n) (decimal_digits n) at (omega (arith, (begins n).some)))).0

-- digits behind a number from 1 on
decimal-from : (value : ℕ) (ds : List ℕ) → 0 < value → digits_in ds ≡ ds → decimal (numeral_from value ds) ≡ decimal value ++ ds
unfolding numeral_from
decimal-from value [] some h = sym (append-nil (decimal value))
decimal-from value (d ∷ ds) some h =
    let c = digits_cons d ds h in
    let code = digit_says d c.0 in
    let more = 10 * value + (d - 48) in
    let tenth : more / 10 ≡ value = omega arith in
    let last : digit (more % 10) ≡ d = omega arith in
    let one : decimal more ≡ decimal value ++ (d ∷ []) = rw (decimal_more more (omega arith), tenth, last) in
    decimal-from more ds (omega arith) c.1 ∙ rw (one, append_assoc)

-- one digit
decimal_digit : (d : ℕ) → is_digit d ≡ true → decimal (0 + (d - 48)) ≡ d ∷ []
decimal_digit d h =
    let code = digit_says d h in
    let same : digit (0 + (d - 48)) ≡ d = omega arith in
    rw (decimal-one (0 + (d - 48)) (omega arith), same)

-- digits with no zeros in front are those of the number that they make
pub decimal-numeral : (ds : List ℕ) → digits_in ds ≡ ds → Shortest ds → decimal (numeral ds) ≡ ds
unfolding numeral_from
decimal-numeral [] h s = absurd (omega (arith, s.some))
decimal-numeral (d ∷ []) h s = decimal_digit d (digits_cons d [] h).0
decimal-numeral (d ∷ e ∷ ds) h s =
    let c = digits_cons d (e ∷ ds) h in
    let code = digit_says d c.0 in
    let not-zero : 48 < d = ⊎_elim (λ g. g) (λ g. absurd (omega (arith, s.alone (omega arith)))) (either 48 d) in
    decimal-from (0 + (d - 48)) (e ∷ ds) (omega arith) c.1 ∙ rw (decimal_digit d c.0)
