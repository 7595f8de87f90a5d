-- `files::read_rows` meets its contract. The invariant: some rows are done, the others are still to be read. Assumes nothing.
use Prim.Native.Nat.{ℕ, ◌-◌}
use mathlib.Core.Path.{◌≡◌}
use mathlib.Core.List.{List, []}
use lib.ListN.{length}
use Rattle.model.specs.Task.{Task}
use Rattle.table.specs.declared.Table.{Table}
use Rattle.fields.specs.Promises.{SoFar}
use Rattle.files.specs.Reading.{rows_at}
use Rattle.files.proofs.read_rows.Given as goal

pub record Reading (s : List ℕ) (at n : ℕ) (table : Table) (used p i : ℕ) : Type 0 where
  pub done : List Task
  pub far : SoFar done table used
  pub number : length done ≡ i
  pub same : rows_at n [] s at ≡ rows_at (n - i) done s p

abbrev pub invariant-loop : goal.invariant-loop
invariant-loop l = Reading l.bytes l.fn.at l.n l.growing.table l.growing.used l.p l.counter
