-- Document 02, §4, "Probe to label": the delay along a chain, by the paper's equation 3.
use Rattle.std.specs.Prelude.{ℕ, ◌+◌, Bool, true, not, ◌&&◌, List, [], ◌∷◌, eqb, ltb}
use Rattle.lists.specs.Lists.{pick, total}
use Rattle.model.specs.Task.{Task}
use Rattle.model.specs.Bounds.{on_core, bound}

-- a step of a chain: a task of the table and one of its parts, from 0
pub record Link : Type 0 where
  pub task : Task
  pub part : ℕ

-- of two steps in a row: they are one task and the later part number is larger, so that one job passes both
unfoldable pub same_job : Link → Link → Bool
same_job l m = eqb l.task.id m.task.id && ltb l.part m.part

-- a step counts unless the same job passes the next one: then only the later counts
unfoldable pub counts : Link → List Link → Bool
counts l [] = true
counts l (m ∷ ls) = not (same_job l m)

-- the steps that count, in order
unfoldable pub counting : List Link → List Link
counting [] = []
counting (l ∷ ls) = pick (counts l ls) (l ∷ counting ls) (counting ls)

module _ (tasks : List Task) where
  -- R: the bound of a step's part, among the rows of its core
  unfoldable pub bound_of : Link → ℕ
  bound_of l = bound (on_core l.task.core tasks) l.task l.part

  -- T + R
  unfoldable pub step_delay : Link → ℕ
  step_delay l = l.task.period + bound_of l

  -- the sum of period and bound over the steps that count (3)
  unfoldable pub delay : List Link → ℕ
  delay links = total step_delay (counting links)
