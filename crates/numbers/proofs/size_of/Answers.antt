-- `numbers::size_of` meets its contract: each range is one group more. Assumes nothing.
use Prim.Native.Nat.{ℕ, ◌/◌, ◌^◌, ◌≤◌, ◌<◌}
use native.Mathlib.Omega.{arith}
use mathlib.Core.Path.{◌≡◌, sym}
use lib.ListN.{length}
use Rattle.numbers.specs.Numbers.{encode}
use Rattle.numbers.proofs.Laws.{length-one, length_more}
use Rattle.numbers.proofs.size_of.Goals as goal

-- two groups
two : (n : ℕ) → 128 ≤ n → n < 128 ^ 2 → length (encode n) ≡ 2
two n h l = length_more n 1 h (omega arith) (length-one (n / 128) (omega arith))

-- three groups
three : (n : ℕ) → 128 ^ 2 ≤ n → n < 128 ^ 3 → length (encode n) ≡ 3
three n h l = length_more n 2 (omega arith) (omega arith) (two (n / 128) (omega arith) (omega arith))

-- four groups
four : (n : ℕ) → 128 ^ 3 ≤ n → n < 128 ^ 4 → length (encode n) ≡ 4
four n h l = length_more n 3 (omega arith) (omega arith) (three (n / 128) (omega arith) (omega arith))

pub returns-in-0-to-127 : goal.returns-in-0-to-127
returns-in-0-to-127 c = sym (length-one _ (omega arith))

pub returns-in-128-to-16383 : goal.returns-in-128-to-16383
returns-in-128-to-16383 c = sym (two _ (omega arith) (omega arith))

pub returns-in-16384-to-2097151 : goal.returns-in-16384-to-2097151
returns-in-16384-to-2097151 c = sym (three _ (omega arith) (omega arith))

pub returns-in-2097152-to-268435455 : goal.returns-in-2097152-to-268435455
returns-in-2097152-to-268435455 c = sym (four _ (omega arith) (omega arith))

pub returns-in_default : goal.returns-in_default
returns-in_default c = sym (length_more _ 4 (omega arith) (omega arith) (four _ (omega arith) (omega arith)))
