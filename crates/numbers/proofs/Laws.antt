-- Laws of the seven-bit numbers, for the proofs of code that reads and writes them. Assumes nothing.
use Prim.Native.Nat.{ℕ, zero, suc, ◌+◌, ◌-◌, ◌*◌, ◌/◌, ◌%◌, ◌^◌, ◌≤◌, ◌<◌}
use native.Mathlib.Nat.{mul_assoc, mul-add, add_assoc, suc-add, pow-suc}
use native.Mathlib.Decide.{dec_lt}
use native.Mathlib.Numerals.{add-one, sub-one}
use native.Mathlib.Omega.{arith}
use borrow.Author.Tests.{lt-ltb, le-ltb}
use mathlib.Core.Path.{◌≡◌, refl, sym, ap, ap₂, ◌∙◌}
use mathlib.Core.List.{List, [], ◌∷◌}
use mathlib.Core.Bool.{Bool, true, false}
use lib.ListN.{length, get_or, take, drop, drop_of_length-le}
use lib.Seq.{drop-cons, take-nil}
use lib.Dec.{ltb}
use Rattle.lists.specs.Lists.{pick}
use Rattle.numbers.specs.Numbers.{Number}
use Rattle.numbers.specs.Numbers.{Got, EndsEarly, Malformed}
use Rattle.numbers.specs.Numbers.{after, last, groups, encode_in, encode}

-- two low parts are one
pub after-after : (v w u v' w' u' : ℕ) (x : Number)
    → after v w u (after v' w' u' x) ≡ after (v + w * v') (w * w') (u + u') x
after-after v w u v' w' u' (Got x n) = ap₂ Got (simp (mul-add, add_assoc, mul_assoc)) (simp add_assoc)
after-after v w u v' w' u' EndsEarly = refl
after-after v w u v' w' u' Malformed = refl

-- nothing stands past the end
pub groups-end : (alone : Bool) (k p : ℕ) (s : List ℕ) → 0 < k → length s ≤ p → groups alone k (drop p s) ≡ EndsEarly
unfolding groups
groups-end alone zero p s h l = absurd (omega arith)
groups-end alone (suc k) p s h l = rw (drop_of_length-le s l)

-- a byte at a place, and what follows it
pub groups-cons : (alone : Bool) (k p : ℕ) (s : List ℕ) → 0 < k → p < length s
    → groups alone k (drop p s)
    ≡ pick (ltb (get_or s p 0) 128) (last alone (get_or s p 0)) (after (get_or s p 0 - 128) 128 1 (groups false (k - 1) (drop (p + 1) s)))
unfolding groups
groups-cons alone zero p s h l = absurd (omega arith)
groups-cons alone (suc k) p s h l = rw (sub-one, add-one, drop-cons s p 0)

-- only the first k bytes have a say
pub groups-front : (alone : Bool) (k m : ℕ) (s : List ℕ) → groups alone k (take (k + m) s) ≡ groups alone k s
unfolding groups
groups-front alone zero m s = refl
groups-front alone (suc k) m [] = rw take-nil
groups-front alone (suc k) m (b ∷ s) =
    rw suc-add (ap (λ (x : Number). pick (ltb b 128) (last alone b) (after (b - 128) 128 1 x)) (groups-front false k m s))

-- where there are k bytes, a number does not end early
pub groups_enough : (alone : Bool) (k : ℕ) (s : List ℕ) → k ≤ length s → groups alone k s ≡ EndsEarly → ⊥
unfolding groups
groups_enough alone zero s h e = let z : ◌≡◌ {A = ℕ} 0 1 = cc in omega arith
groups_enough alone (suc k) [] h e = omega arith
groups_enough alone (suc k) (b ∷ s) h e = by (ltb b 128) alone (ltb 0 b) (groups false k s) (groups_enough false k s (omega arith)) e
  where
    by : (t a u : Bool) (x : Number) → (x ≡ EndsEarly → ⊥)
        → pick t (pick a (Got b 1) (pick u (Got b 1) Malformed)) (after (b - 128) 128 1 x) ≡ EndsEarly → ⊥
    by true true u x q f = let z : ◌≡◌ {A = ℕ} 0 1 = cc in omega arith
    by true false true x q f = let z : ◌≡◌ {A = ℕ} 0 1 = cc in omega arith
    by true false false x q f = let z : ◌≡◌ {A = ℕ} 0 1 = cc in omega arith
    by false a u (Got v n) q f = let z : ◌≡◌ {A = ℕ} 0 1 = cc in omega arith
    by false a u EndsEarly q f = q refl
    by false a u Malformed q f = let z : ◌≡◌ {A = ℕ} 0 1 = cc in omega arith

-- a number below 128 is its one byte
pub encode_in-one : (k n : ℕ) → n < 128 → encode_in (suc k) n ≡ n ∷ []
unfolding encode_in
encode_in-one k n h = rw (lt-ltb n 128 h)

-- room for one byte more changes nothing
pub encode-room : (k n : ℕ) → n < 128 ^ suc k → encode_in (suc k) n ≡ encode_in (suc (suc k)) n
unfolding encode_in
encode-room zero n h = encode_in-one 0 n h ∙ sym (encode_in-one 1 n h)
encode-room (suc k) n h = go (dec_lt n 128) (encode-room k (n / 128) (omega (arith, pow-suc 128 (suc k))))
  where
    go : Dec (n < 128) → encode_in (suc k) (n / 128) ≡ encode_in (suc (suc k)) (n / 128)
        → encode_in (suc (suc k)) n ≡ encode_in (suc (suc (suc k))) n
    go (yes l) e = encode_in-one (suc k) n l ∙ sym (encode_in-one (suc (suc k)) n l)
    go (no l) e = rw (le-ltb n 128 (omega arith)) (ap (◌∷◌ (128 + n % 128)) e)

-- the two equations of the shortest form: one byte, or the low group and the rest
pub encode_one : (n : ℕ) → n < 128 → encode n ≡ n ∷ []
unfolding encode
encode_one n h = encode_in-one 4 n h

pub encode_more : (n : ℕ) → 128 ≤ n → n < 2 ^ 32 → encode n ≡ (128 + n % 128) ∷ encode (n / 128)
unfolding encode encode_in
encode_more n h l = rw (le-ltb n 128 h) (ap (◌∷◌ (128 + n % 128)) (encode-room 3 (n / 128) (omega arith)))

-- each group more is one byte more
pub length-one : (n : ℕ) → n < 128 → length (encode n) ≡ 1
length-one n h = ap length (encode_one n h)

pub length_more : (n k : ℕ) → 128 ≤ n → n < 2 ^ 32 → length (encode (n / 128)) ≡ k → length (encode n) ≡ suc k
length_more n k h l e = ap length (encode_more n h l) ∙ ap suc e

-- a number has a byte
pub encode_some : (n : ℕ) → 0 < length (encode n)
unfolding encode encode_in
encode_some n = go (ltb n 128)
  where
    go : (t : Bool) → 0 < length (pick t (n ∷ []) ((128 + n % 128) ∷ encode_in 4 (n / 128)))
    go true = omega arith
    go false = omega arith

-- and no more than five
encode_in_few : (k n : ℕ) → length (encode_in k n) ≤ k
unfolding encode_in
encode_in_few zero n = omega arith
encode_in_few (suc k) n = go (ltb n 128) (encode_in_few k (n / 128))
  where
    go : (t : Bool) → length (encode_in k (n / 128)) ≤ k → length (pick t (n ∷ []) ((128 + n % 128) ∷ encode_in k (n / 128))) ≤ suc k
    go true h = omega arith
    go false h = omega arith

pub encode_few : (n : ℕ) → length (encode n) ≤ 5
unfolding encode
encode_few n = encode_in_few 5 n
