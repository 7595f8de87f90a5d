-- `chains::sum_of` meets its contract: the sum over the steps that are passed. Assumes nothing.
use Rattle.std.specs.Prelude.{◌≡◌}
use Rattle.lists.specs.Lists.{total, up_to}
use Rattle.chains.specs.Promises.{added_at}
use Rattle.chains.proofs.sum_of.Given as goal

abbrev pub invariant-loop-i : goal.invariant-loop-i
invariant-loop-i l = l.sum ≡ total (added_at l.spots l.rooms) (up_to l.i)
