-- Some ticks of the machine on Set A, so that a reader sees it move: which task runs in each, and where a task stands then.
use Rattle.std.specs.Prelude.{ℕ, zero, suc, ◌+◌, ◌-◌, ◌*◌, ◌/◌, ◌≡◌, List, [], ◌∷◌, ◌++◌, eqb}
use Rattle.lists.specs.Lists.{pick}
use Rattle.model.specs.Task.{Task, part}
use Rattle.model.specs.Rows.{GoodCore}
use Rattle.model.specs.Bounds.{id_of}
use Rattle.model.specs.Machine.{Run, released, runs, stand_at, Allowed}
use Rattle.model.specs.BoundSamples.{a3, set_a, b2, pair}

-- each task released in its first tick and then each period, every part using its worst time
unfoldable pub periodic : (Task → ℕ) → Run
periodic first =
    record {
      release = λ task t. pick (eqb (first task + (t - first task) / task.period * task.period) t) 1 0;
      uses = λ task q r. part task r;
    }

-- such a run is allowed, whatever the first ticks
unfoldable pub PeriodicAllowed : Type 0
PeriodicAllowed = (rows : List Task) → GoodCore rows → (first : Task → ℕ) → Allowed rows (periodic first)

-- the ids of the tasks that run in the first n ticks
unfoldable pub ran_in : List Task → Run → ℕ → List ℕ
ran_in rows run zero = []
ran_in rows run (suc n) = ran_in rows run n ++ (id_of (runs rows run n (stand_at rows run n)) ∷ [])

-- all released at tick 0
abbrev pub together : Run
together = periodic (λ task. 0)

-- the same, but task 2 first released at tick 2
abbrev pub second_later : Run
second_later = periodic (λ task. pick (eqb task.id 2) 2 0)

-- task 3 released at tick 0, tasks 1 and 2 at tick 3, when task 3's second part has run one of its three ticks
abbrev pub third_begun : Run
third_begun = periodic (λ task. pick (eqb task.id 3) 0 3)

-- all released at tick 0, and each part of task 1 using one tick less than its worst time
unfoldable pub one_less : Run
one_less =
    record {
      release = together.release;
      uses = λ task q r. pick (eqb task.id 1) (part task r - 1) (part task r);
    }

-- what a reader can follow with a pencil
pub record MachineSample : Type 0 where
  -- task 1 cuts in at tick 5, while task 3's first part is open; at tick 14 nothing is left to run
  pub all_together : ran_in (set_a 20) together 16 ≡ 1 ∷ 2 ∷ 2 ∷ 2 ∷ 3 ∷ 1 ∷ 3 ∷ 3 ∷ 3
      ∷ 3 ∷ 1 ∷ 2 ∷ 2 ∷ 2 ∷ 0 ∷ 1 ∷ []
  -- task 3's first part: before tick 6 it has run one of its two ticks, before tick 7 it has ended, at its bound
  pub part_open : stand_at (set_a 20) together 6 (a3 20) ≡ record { done = 0; at = 0; ran = 1 }
  pub part_ended : stand_at (set_a 20) together 7 (a3 20) ≡ record { done = 0; at = 1; ran = 0 }
  -- its second part ends at its bound too, before tick 10, and with it the job
  pub job_done : stand_at (set_a 20) together 10 (a3 20) ≡ record { done = 1; at = 0; ran = 0 }
  -- task 2 is released while task 3's first part is open: the part goes on, then task 2 comes before task 3's second part
  pub later_second : ran_in (set_a 20) second_later 9 ≡ 1 ∷ 3 ∷ 3 ∷ 2 ∷ 2 ∷ 1 ∷ 2 ∷ 3 ∷ 3 ∷ []
  -- task 2, released at tick 3, waits for what is left of task 3's second part; its own parts end before ticks 7 and 10, at their
  -- bounds 4 and 7
  pub third_blocks : ran_in (set_a 20) third_begun 10 ≡ 3 ∷ 3 ∷ 3 ∷ 1 ∷ 3 ∷ 3 ∷ 2 ∷ 2 ∷ 1 ∷ 2 ∷ []
  -- T 70 C 26 above T 100 C 62: before tick 101 two jobs of the lower row are released and none is done; the first ends at 114,
  -- and the second then begins
  pub two_pending : (released together b2 101 ≡ 2) × (stand_at pair together 101 b2 ≡ record { done = 0; at = 0; ran = 49 })
  pub first_ends : stand_at pair together 114 b2 ≡ record { done = 1; at = 0; ran = 0 }
  pub second_begins : stand_at pair together 115 b2 ≡ record { done = 1; at = 0; ran = 1 }
  -- with 25 ticks for each job of the upper row the lower row's first job ends two ticks sooner
  pub shorter_part : stand_at pair one_less 112 b2 ≡ record { done = 1; at = 0; ran = 0 }
