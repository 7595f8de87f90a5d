-- `text::put_numbers` meets its contract: each number but the last and a byte, then the last and its own. Assumes nothing.
use mathlib.Core.List.{[], ◌∷◌, map}
use lib.ListN.{drop}
use Rattle.text.specs.Text.{decimal, joined}
use Rattle.text.proofs.Puts.{Putting}
use Rattle.text.proofs.put_numbers.Given as goal

abbrev pub invariant-loop-number : goal.invariant-loop-number
invariant-loop-number l =
    Putting (joined l.between (l.end ∷ []) (map decimal l.numbers)) l.initial.out l.at l.out l.p
    (joined l.between (l.end ∷ []) (map decimal (drop l.number-index l.numbers)))
