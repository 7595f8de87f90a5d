-- A value on its way along two chains of Set A: task 1, then both parts of task 2; and the second part of task 2 twice. All tasks are
-- released at tick 0. In the ticks from 0 on run tasks 1 2 2 2 3 1 3 3 3 3 1 2 2 2 0 1 0 0 0 0 1 2 2 2, where 0 is none.
use Rattle.std.specs.Prelude.{◌≡◌, [], ◌∷◌}
use Rattle.model.specs.Machine.{stand_at, ReleasedIn}
use Rattle.model.specs.BoundSamples.{a1, a2, set_a}
use Rattle.model.specs.MachineSample.{together}
use Rattle.model.specs.ChainDelays.{link, chain_a}
use Rattle.machine.specs.Passing.{nobody, HasPassed}

-- jobs are counted from 0
pub record PassingSample : Type 0 where
  -- job 1 of task 1 is released in tick 5, and done before tick 6
  pub first_released : ReleasedIn together a1 1 5
  pub first_done : stand_at (set_a 20) together 6 a1 ≡ record { done = 2; at = 0; ran = 0 }
  -- job 1 of task 2 is released in tick 10, ends its first part before tick 12 and its second before tick 14
  pub second_released : ReleasedIn together a2 1 10
  pub part_ended : stand_at (set_a 20) together 12 a2 ≡ record { done = 1; at = 1; ran = 0 }
  pub second_done : stand_at (set_a 20) together 14 a2 ≡ record { done = 2; at = 0; ran = 0 }
  -- so a value that is there at tick 1, after the first releases, passes the chain by tick 14, and not by tick 13
  pub passed : HasPassed (set_a 20) (λ core. together) nobody chain_a 1 14
  pub not_sooner : HasPassed (set_a 20) (λ core. together) nobody chain_a 1 13 → ⊥
  -- the same part twice is for two jobs: job 1, and job 2, which is released in tick 20 and done before tick 24
  pub third_released : ReleasedIn together a2 2 20
  pub third_done : stand_at (set_a 20) together 24 a2 ≡ record { done = 3; at = 0; ran = 0 }
  -- so a value that is there at tick 1 passes that chain by tick 24, and not by tick 23
  pub passed_twice : HasPassed (set_a 20) (λ core. together) nobody (link a2 1 ∷ link a2 1 ∷ []) 1 24
  pub not_twice_sooner : HasPassed (set_a 20) (λ core. together) nobody (link a2 1 ∷ link a2 1 ∷ []) 1 23 → ⊥
