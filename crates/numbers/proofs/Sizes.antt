-- A larger number takes no fewer bytes. Assumes nothing.
use Prim.Native.Nat.{ℕ, zero, suc, ◌/◌, ◌≤◌, ◌<◌}
use native.Mathlib.Omega.{arith}
use borrow.Author.Tests.{lt-ltb, le-ltb}
use mathlib.Core.Logic.{◌⊎◌, inl, inr}
use lib.ListN.{length}
use Rattle.lists.proofs.Tests.{either}
use Rattle.numbers.specs.Numbers.{encode_in, encode}

-- in at most k bytes
longer_in : (k n m : ℕ) → n ≤ m → length (encode_in k n) ≤ length (encode_in k m)
unfolding encode_in
longer_in zero n m h = omega arith
longer_in (suc k) n m h = go (either n 128) (either m 128) (longer_in k (n / 128) (m / 128) (omega arith))
  where
    go : (n < 128) ⊎ (128 ≤ n) → (m < 128) ⊎ (128 ≤ m) → length (encode_in k (n / 128)) ≤ length (encode_in k (m / 128))
        → length (encode_in (suc k) n) ≤ length (encode_in (suc k) m)
    go (inl a) (inl b) ih = rw (lt-ltb n 128 a, lt-ltb m 128 b) (omega arith)
    go (inl a) (inr b) ih = rw (lt-ltb n 128 a, le-ltb m 128 b) (omega arith)
    go (inr a) (inl b) ih = absurd (omega arith)
    go (inr a) (inr b) ih = rw (le-ltb n 128 a, le-ltb m 128 b) (omega arith)

-- in its shortest form
pub longer : (n m : ℕ) → n ≤ m → length (encode n) ≤ length (encode m)
unfolding encode
longer n m h = longer_in 5 n m h
