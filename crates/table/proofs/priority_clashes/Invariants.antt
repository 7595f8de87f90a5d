-- `table::priority_clashes` meets its contract. What slots, marks and `crossed` know of the rows before row i. Assumes nothing.
use Rattle.std.specs.Prelude.{ℕ, ◌≡◌, Bool, List, take, Option}
use Rattle.std.specs.Option.{option_or}
use Rattle.table.specs.declared.Marks.{Marks}
use Rattle.table.specs.declared.Row.{Row}
use Rattle.table.specs.Rules as R
use Rattle.table.specs.Clash.{breaks}
use Rattle.table.specs.Promises.{first_of}
use Rattle.table.proofs.Clashes.{first_from}
use Rattle.table.proofs.Seen.{Seen}
use Rattle.table.proofs.priority_clashes.Given as goal

-- of the rows before row i: their slots and marks; no two have one core and priority; and the first that crosses kinds
pub record Passing (rows : List Row) (taken : List Bool) (marks : List Marks) (crossed : Option ℕ) (i : ℕ) : Type 0 where
  pub seen : Seen (take i rows) taken marks
  pub apart : first_of (breaks R.SamePriority) rows ≡ first_from (breaks R.SamePriority) rows i
  pub first : first_of (breaks R.KindsCrossed) rows ≡ option_or crossed (first_from (breaks R.KindsCrossed) rows i)

abbrev pub invariant-loop-i : goal.invariant-loop-i
invariant-loop-i l = Passing l.rows l.taken l.marks l.crossed l.i
