-- What delays a part that has begun, in the machine and in the equations: a higher preemptive task does, a higher cooperative one
-- does not, but waits for what is left of it. The lower row is cooperative, T 20, with parts of 5 and 2 ticks; the higher one, T 3 C 1,
-- is of either kind.
use Rattle.std.specs.Prelude.{ℕ, ◌≡◌, List, [], ◌∷◌, eqb}
use Rattle.lists.specs.Lists.{pick}
use Rattle.std.specs.Prelude.{Some}
use Rattle.model.specs.Task.{Task}
use Rattle.model.specs.Bounds.{blocking, start, finish}
use Rattle.model.specs.Machine.{Run, stand_at}
use Rattle.model.specs.BoundSamples.{row}
use Rattle.model.specs.MachineSample.{periodic, ran_in, together}

-- the higher row by its kind, 0 preemptive or 1 cooperative
abbrev pub e1 : ℕ → Task
e1 kind = row 1 kind 2 3 3 (1 ∷ [])

-- the lower row
abbrev pub e2 : Task
e2 = row 2 1 1 20 20 (5 ∷ 2 ∷ [])

-- the lower row under the higher one
abbrev pub under : ℕ → List Task
under kind = e1 kind ∷ e2 ∷ []

-- the lower row released at tick 0, the higher one at tick 1
abbrev pub lower_begun : Run
lower_begun = periodic (λ task. pick (eqb task.id 1) 1 0)

-- part 0 of the first job of the lower row, and then of the higher one
pub record BegunSample : Type 0 where
  -- under a cooperative row the part runs on from tick 1 to its end before tick 6, past the release at tick 3
  pub runs_on : ran_in (under 1) together 7 ≡ 1 ∷ 2 ∷ 2 ∷ 2 ∷ 2 ∷ 2 ∷ 1 ∷ []
  pub ends_on : (start (under 1) e2 0 0 ≡ Some 1) × (finish (under 1) e2 0 0 ≡ Some 6)
  -- under a preemptive row it stands still in ticks 3 and 6, and ends before tick 8, in which the next part begins
  pub stops : ran_in (under 0) together 9 ≡ 1 ∷ 2 ∷ 2 ∷ 1 ∷ 2 ∷ 2 ∷ 1 ∷ 2 ∷ 2 ∷ []
  pub next_begins : stand_at (under 0) together 8 e2 ≡ record { done = 0; at = 1; ran = 0 }
  pub ends_late : (start (under 0) e2 0 0 ≡ Some 1) × (finish (under 0) e2 0 0 ≡ Some 8)
  -- a cooperative row that is released a tick after the part has begun waits for its other four ticks, and for no other part
  pub waits : ran_in (under 1) lower_begun 6 ≡ 2 ∷ 2 ∷ 2 ∷ 2 ∷ 2 ∷ 1 ∷ []
  pub ends_behind : (blocking (under 1) (e1 1) ≡ 4) × (start (under 1) (e1 1) 0 0 ≡ Some 4) × (finish (under 1) (e1 1) 0 0 ≡ Some 5)
