-- `files::put_all` meets its contract. The invariant: the bytes of the first numbers are in front. Assumes nothing.
use Prim.Native.Nat.{ℕ}
use mathlib.Core.Path.{◌≡◌}
use mathlib.Core.List.{List}
use lib.ListN.{length, take}
use Rattle.lists.specs.Lists.{over}
use Rattle.numbers.specs.Numbers.{encode_all}
use Rattle.files.proofs.put_all.Given as goal

pub record Putting (out₀ ns out : List ℕ) (p i : ℕ) : Type 0 where
  pub place : p ≡ length (encode_all (take i ns))
  pub put : out ≡ over (encode_all (take i ns)) out₀

abbrev pub invariant-loop-n : goal.invariant-loop-n
invariant-loop-n l = Putting l.fn.out l.numbers l.out l.p l.n-index
