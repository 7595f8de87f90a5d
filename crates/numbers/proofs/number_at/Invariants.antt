-- `numbers::number_at` meets its contract. The invariant: what is left to read, put after what was read, is the number.
-- Assumes nothing.
use Prim.Native.Nat.{ℕ, ◌+◌, ◌^◌, ◌<◌}
use mathlib.Core.Path.{◌≡◌}
use mathlib.Core.List.{List}
use lib.ListN.{length}
use lib.Dec.{eqb}
use Rattle.numbers.specs.Numbers.{after, groups, number_at}
use Rattle.numbers.proofs.number_at.Given as goal

-- `used` bytes of `rest` are read, and `more` are behind them, of which at most `left` count
pub record Reading (s : List ℕ) (at value weight : ℕ) (rest : List ℕ) (used left : ℕ) (more : List ℕ) : Type 0 where
  pub four : used + left ≡ 4
  pub low : value < weight
  pub unit : weight ≡ 128 ^ used
  pub size : used + length more ≡ length rest
  pub same : number_at s at ≡ after value weight (at + used) (groups (eqb used 0) left more)

abbrev pub invariant-loop-k : goal.invariant-loop-k
invariant-loop-k l =
    Reading l.bytes l.at l.value l.weight l.rest l.k-iterator.count l.k-iterator.iter.n l.k-iterator.iter.iter.rest.now
