-- `crate::put_lines` meets its contract: a line for each bound. Assumes nothing.
use Prim.Native.Nat.{ℕ, ◌+◌}
use mathlib.Core.List.{List}
use lib.ListN.{length, get_or, drop}
use Rattle.lists.specs.Lists.{each, up_to}
use Rattle.sheet.specs.Sheet.{bound_line}
use Rattle.sheet.specs.Promises.{row_text}
use Rattle.text.proofs.Fitting.{Putting}
use Rattle.sheet.proofs.put_lines.Given as goal

abbrev pub invariant-loop-r : goal.invariant-loop-r
invariant-loop-r l =
    let line : ℕ → List ℕ = λ r. bound_line l.core l.row.id (r + 1) (get_or l.bounds r 0) l.row.deadline in
    Putting (row_text l.core l.row l.bounds) l.initial.paper l.paper (each line (drop l.r (up_to (length l.bounds))))
