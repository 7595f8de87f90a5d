-- `fields::read_fields` meets its contract. The invariant: what is left to read, behind what is done, is all. Assumes nothing.
use mathlib.Core.Path.{◌≡◌}
use mathlib.Core.List.{[]}
use Rattle.fields.specs.Stepping.{fields_at}
use Rattle.fields.specs.Ways.{number_by}
use Rattle.fields.proofs.Filling.{left}
use Rattle.fields.proofs.read_fields.Given as goal

abbrev pub invariant-loop-i : goal.invariant-loop-i
invariant-loop-i g l =
    let one = number_by g.W.Way.way l.bytes in
    fields_at one l.wanted [] l.at ≡ left one l.wanted l.out l.p l.i
