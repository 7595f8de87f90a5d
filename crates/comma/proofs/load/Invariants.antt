-- `comma::load` meets its contract. The invariant: some lines are done, the others are still to be read. Assumes nothing.
use Prim.Native.Nat.{ℕ, ◌-◌}
use mathlib.Core.Path.{◌≡◌}
use mathlib.Core.List.{List, []}
use lib.ListN.{length}
use Rattle.model.specs.Task.{Task}
use Rattle.table.specs.declared.Table.{Table}
use Rattle.fields.specs.Promises.{SoFar}
use Rattle.comma.specs.Reading.{lines_at}
use Rattle.comma.proofs.load.Given as goal

pub record Reading (s : List ℕ) (table : Table) (used p : ℕ) : Type 0 where
  pub done : List Task
  pub far : SoFar done table used
  pub same : lines_at 64 [] s 0 ≡ lines_at (64 - length done) done s p

abbrev pub invariant-loop-p : goal.invariant-loop-p
invariant-loop-p l = Reading l.text l.growing.table l.growing.used l.p

abbrev pub decreases-loop-p : goal.decreases-loop-p
decreases-loop-p l = 64 - l.growing.table.count
