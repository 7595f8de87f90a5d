-- Inner: what the functions on the way to a chain's delay promise each other.
use Rattle.std.specs.Prelude.{ℕ, suc, ◌+◌, ◌≤◌, ◌<◌, ◌≡◌, ◌&&◌, eqb, ltb, List, [], map, length, get_or, slice_get, take}
use Rattle.std.specs.Prelude.{Option, Some, None, Result, Ok, Err}
use Rattle.arrayvec.specs.ArrayVec.{ArrayVec}
use Rattle.lists.specs.Lists.{◌∈◌, Place, pick, total}
use Rattle.model.specs.Task.{Task, parts}
use Rattle.model.specs.Bounds.{on_core}
use Rattle.model.specs.Chains.{Link}
use Rattle.table.specs.declared.Verdict.{Verdict}
use Rattle.table.specs.Verdicts.{good}
use Rattle.fields.specs.Stepping.{Step, stop, go}
use Rattle.analysis.specs.Analysis.{needed, core_bounds, said_of}
use Rattle.chains.specs.declared.About.TheVariants as A
use Rattle.chains.specs.declared.ChainStep.{ChainStep}
use Rattle.chains.specs.declared.Delayed.{Delayed}
use Rattle.chains.specs.declared.Refusal.{Refusal}
use Rattle.chains.specs.declared.Spot.{Spot}
use Rattle.chains.specs.Lists.{steps_from}
use Rattle.chains.specs.Chains.{no_delay, good_delay, cores_said}

-- what is answered for a delay, or for a refusal: its delay is 0
abbrev pub delayed_by : Result ℕ Refusal → Delayed
delayed_by (Ok d) = good_delay d
delayed_by (Err e) = no_delay e.about e.verdict

-- the steps of a list's numbers as the code holds them
abbrev pub as_steps : Step (List ℕ) → Result (ArrayVec ChainStep) Verdict
as_steps (stop v) = Err v
as_steps (go numbers next) = Ok (record { items = steps_from numbers })

-- where the bounds of row i begin among those of its core
unfoldable pub start_of : List Task → ℕ → Task → ℕ
start_of tasks i t = total parts (on_core t.core (take i tasks))

-- where the bounds of each row of a table begin
abbrev pub StartsOf : List Task → List ℕ → Type 0
StartsOf tasks starts = (i : ℕ) (t : Task) → Place tasks i t → get_or starts i 0 ≡ start_of tasks i t

-- what the code keeps of a step whose task stands at a place of the table
abbrev pub spot_of : List Task → ℕ → Link → Spot
spot_of tasks at l =
    record { task = l.task.id; part = l.part; core = l.task.core; period = l.task.period; start = start_of tasks at l.task }

-- that it stands at some place, and this is kept
pub record IsSpot (tasks : List Task) (l : Link) (s : Spot) : Type 0 where
  pub at : ℕ
  pub row : Place tasks at l.task
  pub inside : l.part < parts l.task
  pub is : s ≡ spot_of tasks at l

-- where there is no step: no task has id 0
abbrev pub no_spot : Spot
no_spot = record { task = 0; part = 0; core = 0; period = 0; start = 0 }

-- the steps of a chain in their table
pub record Spots (tasks : List Task) (links : List Link) (spots : List Spot) : Type 0 where
  pub few : length links ≤ 32
  pub count : length spots ≡ length links
  pub spot : (i : ℕ) (l : Link) → Place links i l → IsSpot tasks l (get_or spots i no_spot)

-- the steps found in their table, by what the definition says
abbrev pub Finds : List Task → Step (List Link) → Result (ArrayVec Spot) Verdict → Type 0
Finds tasks (stop v) r = r ≡ Err v
Finds tasks (go links n) r = (spots : ArrayVec Spot) × (r ≡ Ok spots) × Spots tasks links spots.items

-- at most 32 steps, and each names a part from 1 on
pub record IsList (steps : List ChainStep) : Type 0 where
  pub few : length steps ≤ 32
  pub part : (s : ChainStep) → s ∈ steps → 1 ≤ s.part

-- at most 32 steps, each on one of the four cores
pub record OnCores (spots : List Spot) : Type 0 where
  pub few : length spots ≤ 32
  pub core : (i : ℕ) → i < length spots → (get_or spots i no_spot).core ≤ 3

-- the cores of the steps, in step order
abbrev pub cores_in : List Spot → List ℕ
cores_in spots = map (λ s. s.core) spots

-- the room of one core
abbrev pub room_of : List (List ℕ) → ℕ → List ℕ
room_of rooms core = get_or rooms core []

-- a core's bounds stand in its room
pub record Filled (tasks : List Task) (rooms : List (List ℕ)) (core : ℕ) : Type 0 where
  pub bound : (k : ℕ) → k < needed (on_core core tasks) → get_or (room_of rooms core) k 0 ≡ get_or (core_bounds (on_core core tasks)) k 0

-- what is said of one core: nothing where it is good
abbrev pub said_core : ℕ → Verdict → Result Unit Refusal
said_core core v = pick (good v) (Ok tt) (Err (record { about = A.Core core; verdict = v }))

-- one core worked out: what is said of it, and its bounds where that is good; the other cores' stay
pub record Works (tasks : List Task) (core : ℕ) (rooms : List (List ℕ)) (r : Result Unit Refusal) (rooms' : List (List ℕ)) : Type 0 where
  pub said : r ≡ said_core core (said_of tasks core)
  pub filled : r ≡ Ok tt → Filled tasks rooms' core
  pub others : (c : ℕ) → (c ≡ core → ⊥) → Filled tasks rooms c → Filled tasks rooms' c

-- what cores that were worked out leave of an answer: itself where all are good
abbrev pub answered_by : Result Unit Refusal → Delayed → Delayed
answered_by (Ok _) answer = answer
answered_by (Err e) answer = no_delay e.about e.verdict

-- cores worked out in step order: what is said of them, and the bounds of all where that is good
pub record WorksAll (tasks : List Task) (cores : List ℕ) (r : Result Unit Refusal) (rooms' : List (List ℕ)) : Type 0 where
  pub said : (answer : Delayed) → cores_said tasks cores answer ≡ answered_by r answer
  pub filled : r ≡ Ok tt → (c : ℕ) → c ∈ cores → Filled tasks rooms' c

-- where a step's bound stands in its core's room
abbrev pub place_in : Spot → ℕ
place_in s = s.start + s.part

-- and the bound that stands there
abbrev pub bound_in : List (List ℕ) → Spot → ℕ
bound_in rooms s = get_or (room_of rooms s.core) (place_in s) 0

-- what a step adds to the delay: its period and its bound, unless the next step is one task with it and a later part
abbrev pub adding : Spot → Option Spot → ℕ → ℕ
adding s None bound = s.period + bound
adding s (Some next) bound = pick (eqb s.task next.task && ltb s.part next.part) 0 (s.period + bound)

-- what step i adds
abbrev pub added_at : List Spot → List (List ℕ) → ℕ → ℕ
added_at spots rooms i = adding (get_or spots i no_spot) (slice_get spots (suc i)) (bound_in rooms (get_or spots i no_spot))

-- the cores and places of the steps are there, and no period or bound is above the limit
pub record StepsInRange (spots : List Spot) (rooms : List (List ℕ)) : Type 0 where
  pub few : length spots ≤ 32
  pub core : (i : ℕ) → i < length spots → (get_or spots i no_spot).core ≤ 3
  pub inside : (i : ℕ) → i < length spots → place_in (get_or spots i no_spot) < 1024
  pub period : (i : ℕ) → i < length spots → (get_or spots i no_spot).period ≤ 16777215
  pub bound : (i : ℕ) → i < length spots → bound_in rooms (get_or spots i no_spot) ≤ 16777215
