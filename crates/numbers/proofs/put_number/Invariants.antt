-- `numbers::put_number` meets its contract. The invariant: what is still to be written, put where it goes, is the whole. Assumes nothing.
use Prim.Native.Nat.{ℕ, ◌+◌, ◌^◌, ◌<◌}
use mathlib.Core.Path.{◌≡◌}
use mathlib.Core.List.{List}
use lib.ListN.{length}
use lib.Seq.{sets}
use Rattle.numbers.specs.Numbers.{encode}
use Rattle.numbers.proofs.put_number.Given as goal

pub record Writing (out₀ : List ℕ) (v : ℕ) (out : List ℕ) (rest p : ℕ) : Type 0 where
  pub few : rest + p < 2 ^ 32
  pub size : length (encode v) ≡ p + length (encode rest)
  pub long : length out ≡ length out₀
  pub same : sets out₀ 0 (encode v) ≡ sets out p (encode rest)

abbrev pub invariant-loop-rest : goal.invariant-loop-rest
invariant-loop-rest l = Writing l.initial.out l.v l.out l.rest l.p

abbrev pub decreases-loop-rest : goal.decreases-loop-rest
decreases-loop-rest l = l.rest
