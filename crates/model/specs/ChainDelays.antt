-- The delay along chains of Set A, with a pencil: task 1 has T 5 and R 1, task 2 has T 10 and R 4 and 7 for its two parts.
use Rattle.std.specs.Prelude.{ℕ, ◌≡◌, List, [], ◌∷◌}
use Rattle.model.specs.Task.{Task}
use Rattle.model.specs.BoundSamples.{a1, a2, set_a}
use Rattle.model.specs.Chains.{Link, counting, delay}

-- a step from its task and its part
abbrev pub link : Task → ℕ → Link
link t r = record { task = t; part = r }

-- task 1, then both parts of task 2
abbrev pub chain_a : List Link
chain_a = link a1 0 ∷ link a2 0 ∷ link a2 1 ∷ []

pub record ChainDelays : Type 0 where
  -- one job of task 2 passes both its steps, so only the later counts: 5 + 1 + 10 + 7
  pub later_counts : counting chain_a ≡ link a1 0 ∷ link a2 1 ∷ []
  pub in_order : delay (set_a 20) chain_a ≡ 23
  -- the same part twice is for two jobs: 10 + 7 + 10 + 7
  pub twice : delay (set_a 20) (link a2 1 ∷ link a2 1 ∷ []) ≡ 34
  -- so is an earlier part after a later one: 10 + 7 + 10 + 4
  pub falling : delay (set_a 20) (link a2 1 ∷ link a2 0 ∷ []) ≡ 31
  -- and two parts in order with another task between them: 10 + 4 + 5 + 1 + 10 + 7
  pub between : delay (set_a 20) (link a2 0 ∷ link a1 0 ∷ link a2 1 ∷ []) ≡ 37
