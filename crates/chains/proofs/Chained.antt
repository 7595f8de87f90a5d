-- What was found of a chain's steps and said of its cores, and the answer that the definition gives then. Assumes nothing.
use Prim.Native.Nat.{ℕ, ◌≤◌}
use mathlib.Core.Path.{◌≡◌, refl, sym, ap, ◌∙◌}
use mathlib.Core.List.{List, map}
use lib.ListN.{length}
use Rattle.std.specs.Prelude.{Ok, Err}
use Rattle.arrayvec.specs.ArrayVec.{ArrayVec}
use Rattle.lists.specs.Lists.{◌∈◌, total, up_to}
use Rattle.model.specs.Task.{Task}
use Rattle.model.specs.Rows.{GoodTask}
use Rattle.model.specs.Bounds.{on_core}
use Rattle.model.specs.Chains.{Link, delay}
use Rattle.table.specs.declared.Table.{Table}
use Rattle.table.specs.declared.Verdict.{Verdict}
use Rattle.table.specs.Memory.{tasks_of}
use Rattle.fields.specs.Stepping.{Step, stop, go}
use Rattle.chains.specs.declared.About.TheVariants as A
use Rattle.chains.specs.declared.Refusal.{Refusal}
use Rattle.chains.specs.declared.Spot.{Spot}
use Rattle.chains.specs.Chains.{no_delay, good_delay, cores_said, step_core, chain_said}
use Rattle.analysis.specs.Analysis.{needed}
use Rattle.chains.proofs.Rows.{Sound}
use Rattle.chains.specs.Promises.{Spots, Finds, OnCores, cores_in, Filled, WorksAll, added_at, StepsInRange}
use Rattle.chains.proofs.Rows.{tasks-each}
use Rattle.chains.proofs.Rooms.{needed_few}
use Rattle.chains.proofs.Delays.{cores_same, on_cores, summable, sum_is_delay}

-- a step is unknown: that is what is said
pub not_chained : (tasks : List Task) (x : Step (List Link)) (v : Verdict) → Finds tasks x (Err v) → no_delay A.List v ≡ chain_said tasks x
unfolding chain_said
not_chained tasks (stop w) v e = cc
not_chained tasks (go links n) v f = absurd (let e = f.1 in cc)

-- a chain found in its table
pub record Chained (t : Table) (x : Step (List Link)) (spots : List Spot) : Type 0 where
  pub sound : Sound t
  pub links : List Link
  pub last : ℕ
  pub same : x ≡ go links last
  pub found : Spots (tasks_of t) links spots

-- so it is where its steps are found
pub chained : {t : Table} → Sound t → (x : Step (List Link)) (spots : ArrayVec Spot) → Finds (tasks_of t) x (Ok spots)
    → Chained t x spots.items
chained {t} s (stop v) spots e = absurd cc
chained {t} s (go links n) spots f =
    let own : spots ≡ f.0 = (let e = f.1 in cc) in
    record { sound = s; links = links; last = n; same = refl; found = rw own f.2 }

module _ {t : Table} {x : Step (List Link)} {spots : List Spot} (k : Chained t x spots) where
  -- the table's tasks
  abbrev tasks : List Task
  tasks = tasks_of t

  -- each is a good one
  good-tasks : (u : Task) → u ∈ tasks → GoodTask u
  good-tasks = tasks-each k.sound

  -- its cores are there
  pub cores_there : OnCores spots
  cores_there = on_cores k.found good-tasks

  -- what the definition says of the chain
  its_answer : chain_said tasks x ≡ cores_said tasks (cores_in spots) (good_delay (delay tasks k.links))
  unfolding chain_said
  its_answer = rw (k.same, cores_same k.found good-tasks)

  -- a core is refused
  pub core-refused : {e : Refusal} {rooms : List (List ℕ)} → WorksAll tasks (cores_in spots) (Err e) rooms
      → no_delay e.about e.verdict ≡ chain_said tasks x
  core-refused w = sym (its_answer ∙ w.said (good_delay (delay tasks k.links)))

  module _ {rooms : List (List ℕ)} (w : WorksAll tasks (cores_in spots) (Ok tt) rooms) where
    -- else each core has room for its bounds
    few : (core : ℕ) → needed (on_core core tasks) ≤ 1024
    few = needed_few k.sound

    -- and they are there
    cores_filled : (core : ℕ) → core ∈ map step_core k.links → Filled tasks rooms core
    cores_filled = rw (cores_same k.found good-tasks) at (w.filled refl)

    -- so the steps can be summed
    pub can_sum : StepsInRange spots rooms
    can_sum = summable k.found good-tasks few cores_filled

    -- and that is the answer
    pub chain_passes : (d : ℕ) → d ≡ total (added_at spots rooms) (up_to (length spots)) → good_delay d ≡ chain_said tasks x
    chain_passes d e =
        let all : d ≡ delay tasks k.links = e ∙ sum_is_delay k.found good-tasks few cores_filled in
        sym (its_answer ∙ w.said (good_delay (delay tasks k.links)) ∙ ap good_delay (sym all))
