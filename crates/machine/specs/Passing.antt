-- Document 02, §4: what the delay along a chain means. The four cores run side by side; a value goes from step to step.
use Rattle.std.specs.Prelude.{ℕ, ◌+◌, ◌≤◌, ◌<◌, ◌≡◌, true, false, List, [], ◌∷◌}
use Rattle.lists.specs.Lists.{◌∈◌}
use Rattle.std.specs.Prelude.{Some}
use Rattle.model.specs.Task.{Task, parts}
use Rattle.model.specs.Rows.{GoodCore}
use Rattle.model.specs.Bounds.{on_core, window}
use Rattle.model.specs.Machine.{Run, stand_at, ReleasedIn, Allowed, Ended}
use Rattle.model.specs.MachineSample.{periodic}
use Rattle.model.specs.Chains.{Link, same_job, delay}

-- the runs of the cores, each allowed as in demand 3
abbrev pub AllAllowed : List Task → (ℕ → Run) → Type 0
AllAllowed tasks runs = (core : ℕ) → core ≤ 3 → Allowed (on_core core tasks) (runs core)

-- from tick u on, the task is released at least once in any stretch of its period (with releases at least a period apart, as in
-- demand 3, that is one exactly every period)
abbrev pub Recurs : Run → Task → ℕ → Type 0
Recurs run task u = (t : ℕ) → u ≤ t → (q : ℕ) × (s : ℕ) × (t ≤ s) × (s < t + task.period) × ReleasedIn run task q s

-- so it is with releases exactly a period apart, from the first on
abbrev pub PeriodicRecurs : Type 0
PeriodicRecurs = (first : Task → ℕ) (task : Task) → 1 ≤ task.period → (u : ℕ) → first task ≤ u → Recurs (periodic first) task u

-- what has brought a value to where it is: no step yet, or a job of the task of the last step that it passed
pub data Carrier : Type 0 where
  nobody : Carrier
  job : Link → ℕ → Carrier

-- the next step is not for that job: another task, or the same or an earlier part
abbrev pub Anew : Carrier → Link → Type 0
Anew nobody l = Unit {0}
Anew (job m q) l = same_job m l ≡ false

module _ (tasks : List Task) (runs : ℕ → Run) where
  -- job q of a step's task has ended the step's part when tick e begins
  abbrev pub EndedBy : Link → ℕ → ℕ → Type 0
  EndedBy l q e = Ended (stand_at (on_core l.task.core tasks) (runs l.task.core) e l.task) q l.part

  -- a value that is there at tick u, brought by `c`, has passed these steps by tick v
  pub data HasPassed : Carrier → List Link → ℕ → ℕ → Type 0 where
    -- no step is left
    all : {c : Carrier} {u v : ℕ} → u ≤ v → HasPassed c [] u v
    -- a job released at or after the value is there ends the part, and from then on the value is there for the next step
    next : {c : Carrier} {l : Link} {ls : List Link} {u v q t e : ℕ}
        → Anew c l → u ≤ t → ReleasedIn (runs l.task.core) l.task q t → EndedBy l q e
        → HasPassed (job l q) ls e v → HasPassed c (l ∷ ls) u v
    -- two steps in a row of one task, the later part number larger: the same job passes both
    same : {m l : Link} {ls : List Link} {u v q e : ℕ}
        → same_job m l ≡ true → u ≤ e → EndedBy l q e
        → HasPassed (job l q) ls e v → HasPassed (job m q) (l ∷ ls) u v

-- a step of a table: its task is a row of a good core, has a window up to the limit and such a part
pub record StepOf (tasks : List Task) (l : Link) : Type 0 where
  pub row : l.task ∈ on_core l.task.core tasks
  pub core : GoodCore (on_core l.task.core tasks)
  pub windowed : (L : ℕ) × (window (on_core l.task.core tasks) l.task ≡ Some L)
  pub inside : l.part < parts l.task

-- steps with one id are of one task
abbrev pub OneTaskAnId : List Link → Type 0
OneTaskAnId links = (l m : Link) → l ∈ links → m ∈ links → l.task.id ≡ m.task.id → l.task ≡ m.task

-- a value that is there at tick u, from which on the tasks of the chain are released so, has passed the whole chain by tick u + delay
abbrev pub NoValueIsLater : Type 0
NoValueIsLater =
    (tasks : List Task) (links : List Link) → ((l : Link) → l ∈ links → StepOf tasks l) → OneTaskAnId links
    → (runs : ℕ → Run) → AllAllowed tasks runs → (u : ℕ) → ((l : Link) → l ∈ links → Recurs (runs l.task.core) l.task u)
    → HasPassed tasks runs nobody links u (u + delay tasks links)
