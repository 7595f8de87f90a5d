-- Decimal numbers: the two equations that a reader expects, and that the digits which `io::decimal` gives are those. Assumes nothing.
use Prim.Native.Nat.{ℕ, zero, suc, ◌-◌, ◌/◌, ◌%◌, ◌^◌, ◌≤◌, ◌<◌}
use native.Mathlib.Nat.{pow-suc, one-le-pow}
use native.Mathlib.Omega.{arith}
use borrow.Author.Tests.{lt-ltb, le-ltb}
use mathlib.Core.Path.{◌≡◌, sym}
use mathlib.Core.Logic.{◌⊎◌, inl, inr, ⊎_elim}
use mathlib.Core.List.{[], ◌∷◌, ◌++◌}
use lib.ListN.{length, length-append}
use Rattle.lists.proofs.Tests.{either}
use Rattle.io.specs.Digits.{last_digits, IsDigitCount}
use Rattle.text.specs.Text.{digit, decimal_in, decimal, Decimal}

-- enough fuel is enough
more_fuel : (k m n : ℕ) → n < k → n < m → decimal_in k n ≡ decimal_in m n
unfolding decimal_in
more_fuel zero m n h g = absurd (omega arith)
more_fuel (suc k) zero n h g = absurd (omega arith)
more_fuel (suc k) (suc m) n h g =
    ⊎_elim (λ low. rw (lt-ltb n 10 low))
    (λ high. rw (le-ltb n 10 high, more_fuel k m (n / 10) (omega arith) (omega arith)))
    (either n 10)

-- a number below 10 is one digit
pub decimal-one : (n : ℕ) → n < 10 → decimal n ≡ digit n ∷ []
unfolding decimal decimal_in
decimal-one n h = rw (lt-ltb n 10 h)

-- another is that of its tenth and one digit more
pub decimal_more : (n : ℕ) → 10 ≤ n → decimal n ≡ decimal (n / 10) ++ (digit (n % 10) ∷ [])
unfolding decimal decimal_in
decimal_more n h = rw (le-ltb n 10 h, more_fuel n (suc (n / 10)) (n / 10) (omega arith) (omega arith))

-- both equations hold
pub decimals : Decimal
decimals = record { one = decimal-one; more = decimal_more }

-- with one digit fewer, a tenth of it
rest_many : (k n : ℕ) → 10 ^ suc k ≤ n → 1 < suc k → 10 ^ (suc k - 1) ≤ n / 10
rest_many k n many h = let less : suc k - 1 ≡ k = omega arith in rw less (omega (arith, pow-suc 10 k))

-- the fewest digits that hold a number are its decimal form
pub digits_are : (k n : ℕ) → IsDigitCount 10 1 n k → last_digits 10 k n ≡ decimal n
digits_are zero n f = absurd (omega arith)
digits_are (suc zero) n f =
    let low : n < 10 = omega (arith, f.1) in
    let same : n % 10 ≡ n = omega arith in
    rw (same, lt-ltb n 10 low, decimal-one n low)
digits_are (suc (suc k)) n f =
    let less : suc (suc k) - 1 ≡ suc k = omega arith in
    let many : 10 ^ suc k ≤ n = rw less at (f.2 (omega arith)) in
    let high : 10 ≤ n = omega (arith, pow-suc 10 k, one-le-pow k 10 (omega arith)) in
    let rest : IsDigitCount 10 1 (n / 10) (suc k) = (omega arith, omega (arith, pow-suc 10 (suc k), f.1), λ h. rest_many k n many h) in
    let small : n % 10 < 10 = omega arith in
    rw (digits_are (suc k) (n / 10) rest, lt-ltb (n % 10) 10 small) (sym (decimal_more n high))

-- a number below 10 ^ k has at most k digits
pub decimal_short : (k n : ℕ) → n < 10 ^ suc k → length (decimal n) ≤ suc k
decimal_short zero n h = rw (decimal-one n (omega arith)) (omega arith)
decimal_short (suc k) n h =
    ⊎_elim (λ low. rw (decimal-one n low) (omega arith))
    (λ high. rw (decimal_more n high, length-append (decimal (n / 10)) (digit (n % 10) ∷ []))
    (omega (arith, decimal_short k (n / 10) (omega (arith, pow-suc 10 (suc k))))))
    (either n 10)

-- a larger number has no fewer digits, with the same fuel
longer_in : (k n m : ℕ) → n ≤ m → length (decimal_in k n) ≤ length (decimal_in k m)
unfolding decimal_in
longer_in zero n m h = omega arith
longer_in (suc k) n m h = by (either n 10) (either m 10) (longer_in k (n / 10) (m / 10) (omega arith))
  where
    by : (n < 10) ⊎ (10 ≤ n) → (m < 10) ⊎ (10 ≤ m) → length (decimal_in k (n / 10)) ≤ length (decimal_in k (m / 10))
        → length (decimal_in (suc k) n) ≤ length (decimal_in (suc k) m)
    by (inl a) (inl b) ih = rw (lt-ltb n 10 a, lt-ltb m 10 b) (omega arith)
    by (inl a) (inr b) ih = rw (lt-ltb n 10 a, le-ltb m 10 b, length-append) (omega arith)
    by (inr a) (inl b) ih = absurd (omega arith)
    by (inr a) (inr b) ih =
        rw (le-ltb n 10 a, le-ltb m 10 b, length-append (decimal_in k (n / 10)) _, length-append (decimal_in k (m / 10)) _) (omega arith)

-- so it is in decimal
pub decimal_longer : (n m : ℕ) → n ≤ m → length (decimal n) ≤ length (decimal m)
unfolding decimal
decimal_longer n m h = rw (more_fuel (suc n) (suc m) n (omega arith) (omega arith)) (longer_in (suc m) n m h)
