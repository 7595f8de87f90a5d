-- No value is later than the delay along its chain, and periodic runs release as this asks. From demand 3: the job that a step's task
-- releases within a period ends the step's part within its bound, and each earlier part with it.
use Prim.Native.Nat.{ℕ, ◌+◌, ◌-◌, ◌*◌, ◌≤◌, ◌<◌}
use mathlib.Core.Path.{◌≡◌, refl, sym, ap, subst}
use mathlib.Core.Bool.{true, false}
use mathlib.Core.List.Memᴰ
use mathlib.Core.List.{List, [], ◌∷◌}
use mathlib.Core.Logic.{inl, inr}
use native.Mathlib.Omega.{arith}
use native.Mathlib.Nat.{le_refl}
use Rattle.lists.specs.Lists.{◌∈◌}
use Rattle.lists.proofs.Tests.{by_test}
use Rattle.model.specs.Task.{Task}
use Rattle.model.specs.Bounds.{on_core, before}
use Rattle.model.specs.Machine.{Run, Stand, released, ReleasedIn, Ended}
use Rattle.model.specs.MachineSample.{periodic}
use Rattle.model.specs.Chains.{Link, same_job, bound_of, delay}
use Rattle.model.proofs.Rounding.{before_covers, before-reach}
use Rattle.model.proofs.Periodic.{released_then}
use Rattle.model.proofs.Chains.{same_job_lem, delay-last, delay_anew, delay_same}
use Rattle.machine.specs.NoRunIsLater.{NeverLater, NoRunIsLater}
use Rattle.machine.specs.Passing.{AllAllowed, Recurs, PeriodicRecurs, Carrier, nobody, job, Anew, EndedBy}
use Rattle.machine.specs.Passing.{HasPassed, all, next, same, StepOf, OneTaskAnId, NoValueIsLater}
use Rattle.machine.proofs.NoRunIsLater.{no_run_is_later}

-- the next release of a periodic run, as many periods after the first tick as cover the time since, comes within a period
pub periodic_recurs : PeriodicRecurs
periodic_recurs first task positive u le t since =
    let d = t - first task in
    let s = first task + before task d * task.period in (
      released (periodic first) task s,
      s,
      omega (arith, before_covers task positive d),
      omega (arith, before-reach task positive d),
      released_then first task (before task d) s positive refl,
    )

-- a job that has ended a part has ended each earlier one
ended_before : (s : Stand) (q p r : ℕ) → p < r → Ended s q r → Ended s q p
unfolding Ended
ended_before s q p r lt (inl done) = inl done
ended_before s q p r lt (inr here) = inr (here.0, omega (arith, here.1))

module _ (tasks : List Task) (links : List Link) (steps : (l : Link) → l ∈ links → StepOf tasks l) (one-task : OneTaskAnId links)
    (runs : ℕ → Run) (allowed : AllAllowed tasks runs)
    (u : ℕ) (recurs : (l : Link) → l ∈ links → Recurs (runs l.task.core) l.task u) where
  -- a job of a task is released in a tick of the run of its core
  abbrev Released : Task → ℕ → ℕ → Type 0
  Released task q t = ReleasedIn (runs task.core) task q t

  -- a job ends a step's part, and from then on the value that it brings passes the other steps by tick v
  abbrev Brings : Link → List Link → ℕ → ℕ → Type 0
  Brings l ls v q = (e : ℕ) × EndedBy tasks runs l q e × HasPassed tasks runs (job l q) ls e v

  -- so does each job of the step's task whose release in tick t leaves time for the delay, less the period that went by before
  abbrev Brought : Link → List Link → ℕ → Type 0
  Brought l ls v = (q t : ℕ) → u ≤ t → Released l.task q t → t + delay tasks (l ∷ ls) ≤ v + l.task.period → Brings l ls v q

  -- a step's part has ended by its bound
  in_time : (l : Link) → l ∈ links → (q t : ℕ) → Released l.task q t → EndedBy tasks runs l q (t + bound_of tasks l)
  unfolding bound_of NeverLater NoRunIsLater
  in_time l i q t is_released =
      let step = steps l i in
      let task = l.task in
      let core = task.core in
      let low = (step.core.good task step.row).core.most in
      no_run_is_later (on_core core tasks) step.core task step.row step.windowed.0 step.windowed.1 (runs core)
      (allowed core low) q l.part t (t + bound_of tasks l) is_released step.inside (le_refl _)

  -- a value that the next step takes anew waits less than a period for a job
  taken : {c : Carrier} (l : Link) (ls : List Link) → l ∈ links → Anew c l → (w v : ℕ) → u ≤ w → w + delay tasks (l ∷ ls) ≤ v
      → Brought l ls v → HasPassed tasks runs c (l ∷ ls) w v
  taken l ls i new w v since by brought =
      let r = recurs l i w since in
      let b = brought r.0 r.1 (omega (arith, r.2)) r.4 (omega (arith, r.3)) in
      next {u = w} {t = r.1} new (omega (arith, r.2)) r.4 b.1 b.2

  -- the last step: period and bound count
  last : (l : Link) (v : ℕ) → l ∈ links → Brought l [] v
  last l v i q t since is_released by =
      let end : t + bound_of tasks l ≤ v = omega (arith, delay-last tasks l) in
      (t + bound_of tasks l, in_time l i q t is_released, all end)

  -- so they do at a step whose job does not pass the next one
  counted : (l m : Link) (ls : List Link) (v : ℕ) → l ∈ links → m ∈ links → same_job l m ≡ false
      → Brought m ls v → Brought l (m ∷ ls) v
  counted l m ls v i j other brought q t since is_released by =
      let e = t + bound_of tasks l in
      let left : e + delay tasks (m ∷ ls) ≤ v = omega (arith, delay_anew tasks l m ls other) in
      (e, in_time l i q t is_released, taken m ls j other e v (omega arith) left brought)

  -- a step whose job passes the next one too: its part ends no later than that one's
  passed_over : (l m : Link) (ls : List Link) (v : ℕ) → l ∈ links → m ∈ links → same_job l m ≡ true
      → Brought m ls v → Brought l (m ∷ ls) v
  passed_over l m ls v i j one brought q t since is_released by =
      let s = same_job_lem l m one in
      let task : l.task ≡ m.task = one-task l m i j s.0 in
      let its = subst (λ (a : Task). Released a q t) task is_released in
      let b = brought q t since its (omega (arith, delay_same tasks l m ls one, ap (λ (a : Task). a.period) task)) in
      let ended = subst (λ (a : Task). EndedBy tasks runs (record { task = a; part = m.part }) q b.0) (sym task) b.1 in
      (b.0, ended_before _ q l.part m.part s.1 ended, same one (le_refl _) b.1 b.2)

  -- all jobs bring the value through
  all_bring : (l : Link) (ls : List Link) → ((k : Link) → k ∈ (l ∷ ls) → k ∈ links) → (v : ℕ) → Brought l ls v
  all_bring l [] inside v = last l v (inside l (Memᴰ.head refl))
  all_bring l (m ∷ ls) inside v =
      let i = inside l (Memᴰ.head refl) in
      let j = inside m (Memᴰ.tail (Memᴰ.head refl)) in
      let rest = all_bring m ls (λ k h. inside k (Memᴰ.tail h)) v in
      by_test (same_job l m) (λ e. passed_over l m ls v i j e rest) (λ e. counted l m ls v i j e rest)

  -- so a value that is there at tick u has passed a chain by each tick that leaves time for its delay
  all_pass : (ls : List Link) → ((k : Link) → k ∈ ls → k ∈ links) → (v : ℕ) → u + delay tasks ls ≤ v
      → HasPassed tasks runs nobody ls u v
  all_pass [] inside v by = let end : u ≤ v = omega arith in all end
  all_pass (l ∷ ls) inside v by = taken l ls (inside l (Memᴰ.head refl)) tt u v (le_refl u) by (all_bring l ls inside v)

-- no value is later
pub no_value_is_later_lem : NoValueIsLater
no_value_is_later_lem tasks links steps one-task runs allowed u recurs =
    all_pass tasks links steps one-task runs allowed u recurs links (λ k i. i) _ (omega arith)
