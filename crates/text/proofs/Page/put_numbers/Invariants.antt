-- `text::Page::put_numbers` meets its contract: each number but the last and a byte, then the last and its own. Assumes nothing.
use Prim.Native.Nat.{ℕ}
use mathlib.Core.List.{List, [], ◌∷◌, ◌++◌, map}
use lib.ListN.{drop}
use Rattle.text.specs.Text.{decimal, joined}
use Rattle.text.proofs.Fitting.{Putting}
use Rattle.text.proofs.Page.put_numbers.Given as goal

-- numbers as they are written
abbrev pub joint : ℕ → ℕ → List ℕ → List ℕ
joint between end ns = joined between (end ∷ []) (map decimal ns)

abbrev pub invariant-loop-number : goal.invariant-loop-number
invariant-loop-number g l =
    Putting (joint l.between l.end l.numbers) l.initial.self l.self (joint l.between l.end (drop l.number-index l.front ++ (l.last ∷ [])))
