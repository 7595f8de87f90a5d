-- The sum of what the first steps of a chain add, step by step. Assumes nothing.
use Prim.Native.Nat.{ℕ, zero, suc, ◌+◌, ◌*◌, ◌≤◌}
use native.Mathlib.Omega.{arith}
use mathlib.Core.Path.{◌≡◌, ap, ◌∙◌}
use mathlib.Core.Bool.{◌&&◌}
use mathlib.Core.List.{List}
use lib.Dec.{eqb, ltb}
use lib.ListN.{length, get_or}
use Rattle.std.specs.Prelude.{Option, Some, None}
use Rattle.lists.specs.Lists.{total, listed, up_to}
use Rattle.lists.proofs.Tests.{by_test}
use Rattle.lists.proofs.Each.{listed_snoc}
use Rattle.lists.proofs.Totals.{total_snoc}
use Rattle.chains.specs.declared.Spot.{Spot}
use Rattle.chains.specs.Promises.{no_spot, bound_in, adding, added_at, StepsInRange}

-- one term more
pub sum_more : (f : ℕ → ℕ) (n : ℕ) → total f (up_to (suc n)) ≡ total f (up_to n) + f n
sum_more f n = ap (total f) (listed_snoc (λ i. i) n) ∙ total_snoc f (up_to n) n

-- a step adds at most its period and its bound
adding-most : (s : Spot) (next : Option Spot) (bound : ℕ) → adding s next bound ≤ s.period + bound
adding-most s None bound = omega arith
adding-most s (Some next) bound =
    by_test (eqb s.task next.task && ltb s.part next.part) (λ e. rw e (omega arith)) (λ e. rw e (omega arith))

-- so the sum over the first i steps stays small
pub sum_small : (spots : List Spot) (rooms : List (List ℕ)) → StepsInRange spots rooms → (i : ℕ) → i ≤ length spots
    → total (added_at spots rooms) (up_to i) ≤ i * 33554430
unfolding total listed
sum_small spots rooms s zero h = omega arith
sum_small spots rooms s (suc i) h =
    let most : added_at spots rooms i ≤ (get_or spots i no_spot).period + bound_in rooms (get_or spots i no_spot)
    = adding-most (get_or spots i no_spot) _ _ in
    omega (arith, most, sum_more (added_at spots rooms) i, sum_small spots rooms s i (omega arith), s.period i h, s.bound i h)
