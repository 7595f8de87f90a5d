-- `bounds::Loads::search` meets its contract: x is reached from below in n rounds.
use Prim.Native.Nat.{ℕ, ◌-◌}
use Rattle.bounds.specs.Loads.{side}
use Rattle.model.specs.Least.{Under}
use Rattle.model.proofs.Rounds.{Counted}
use Rattle.bounds.proofs.Loads.search.Given as goal

-- x is where the search has come in n rounds
pub record Climbed (g : ℕ → ℕ) (from x n : ℕ) : Type 0 where
  pub under : Under g from x
  pub counted : Counted g 16777215 from x n

abbrev pub invariant-loop-x : goal.invariant-loop-x
invariant-loop-x l = Climbed (side l.self.rows.now l.base) l.from l.x l.n

abbrev pub decreases-loop-x : goal.decreases-loop-x
decreases-loop-x l = 16777216 - l.x
