-- How many rows are wanted for a sum. Assumes nothing.
use Prim.Native.Nat.{ℕ, ◌≤◌, ◌<◌}
use native.Mathlib.Omega.{arith}
use borrow.Author.Tests.{le-ltb}
use mathlib.Core.Bool.{Bool}
use mathlib.Core.List.{List}
use lib.Dec.{ltb}
use lib.ListN.{length, length-map}
use Rattle.lists.specs.Lists.{keep}
use Rattle.lists.proofs.Keep.{keep-length, keep_fewer}
use Rattle.lists.proofs.Walks.{get_in}
use Rattle.cores.specs.declared.Asked.{Asked}
use Rattle.cores.specs.Cores.{asked_nothing}
use Rattle.cores.specs.Promises.{wanted_loads, asked_at, own_first}

-- no more are wanted than there are
pub wanted-most : (p : Asked → Bool) (rows : List Asked) → length (wanted_loads p rows) ≤ length rows
wanted-most p rows = omega (arith, length-map (keep p rows) (λ (a : Asked). a.load), keep-length p rows)

-- a row is not higher than itself: with its own first there are no more than all
pub own-most : (rows : List Asked) (i : ℕ) → i < length rows → length (own_first rows i) ≤ length rows
own-most rows i h =
    let a : Asked = asked_at rows i in
    let higher : Asked → Bool = λ x. ltb a.priority x.priority in
    let fewer : length (keep higher rows) < length rows
    = keep_fewer higher rows a (get_in asked_nothing rows i h) (le-ltb a.priority a.priority (omega arith)) in
    omega (arith, length-map (keep higher rows) (λ (x : Asked). x.load))
