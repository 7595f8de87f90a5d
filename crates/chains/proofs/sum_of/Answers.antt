-- `chains::sum_of` meets its contract: the sum over the steps that are passed. Assumes nothing.
use Prim.Native.Nat.{suc, ◌+◌, ◌≤◌}
use native.Mathlib.Numerals.{add-one}
use native.Mathlib.Omega.{arith}
use mathlib.Core.Path.{◌≡◌, refl, sym, ◌∙◌}
use Rattle.std.specs.Prelude.{length, slice_get}
use Rattle.std.proofs.lemmas.Grind.{common_steps}
use Rattle.std.proofs.lemmas.Option.{gets}
use Rattle.lists.specs.Lists.{total, listed, up_to}
use Rattle.chains.specs.Promises.{added_at}
use Rattle.chains.proofs.Adding.{sum_more, sum_small}
use Rattle.chains.proofs.sum_of.Goals.{After-added-sum}
use Rattle.chains.proofs.sum_of.Goals as goal

-- the sum with what step i adds
sum_on : (c : After-added-sum)
    → c.loop-i.sum + c.added-sum.result ≡ total (added_at c.args.spots.now c.args.rooms.now) (up_to (c.loop-i.i + 1))
sum_on c =
    let next : c.copied-next.result ≡ slice_get c.args.spots.now (suc c.loop-i.i) = grind (arith, common_steps, gets) in
    let adds : c.added-sum.result ≡ added_at c.args.spots.now c.args.rooms.now c.loop-i.i = c.added-sum.ensures ∙ rw next in
    rw (adds, c.loop-i.invariant, add-one) (sym (sum_more (added_at c.args.spots.now c.args.rooms.now) c.loop-i.i))

pub loop-i-init : goal.loop-i-init
unfolding total listed
loop-i-init c = refl

pub overflow_add-sum : goal.overflow_add-sum
overflow_add-sum c =
    let here : c.loop-i.i + 1 ≤ length c.args.spots.now = omega arith in
    omega (arith, sum_on (goal.at.overflow_add-sum c).After-added-sum, sum_small _ _ c.requires (c.loop-i.i + 1) here, c.requires.few)

pub loop-i-preserved : goal.loop-i-preserved
loop-i-preserved c = sum_on (goal.at.loop-i-preserved c).After-added-sum
