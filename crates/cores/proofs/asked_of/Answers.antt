-- `cores::asked_of` meets its contract. Assumes nothing.
use Rattle.std.proofs.Common.{rules}
use Rattle.model.specs.Task.{cost}
use Rattle.model.specs.Bounds.{cooperative}
use Rattle.cores.proofs.asked_of.Goals as goal

pub returns : goal.returns
unfolding cost cooperative
returns c = search rules
