-- `fields::numeral` meets its contract. The invariant: the number of the digits so far is held. Assumes nothing.
use mathlib.Core.Path.{◌≡◌}
use lib.ListN.{take}
use Rattle.fields.specs.Promises.{held_numeral}
use Rattle.fields.proofs.numeral.Given as goal

abbrev pub invariant-loop-digit : goal.invariant-loop-digit
invariant-loop-digit l = l.value ≡ held_numeral (take l.digit-index l.digits)
