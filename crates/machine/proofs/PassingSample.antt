-- The value passes each chain so, and not sooner: by computing the machine's ticks.
use Prim.Native.Nat.{ℕ, ◌≤◌}
use mathlib.Core.Path.{refl}
use mathlib.Core.Logic.{inl, inr}
use mathlib.Core.List.{List, [], ◌∷◌}
use native.Mathlib.Omega.{arith}
use lib.Dec.{lit<, lit≤}
use Rattle.lists.specs.Lists.{keep}
use Rattle.lists.proofs.Tests.{never, not_below}
use Rattle.model.specs.Task.{Task}
use Rattle.model.specs.Least.{max_below}
use Rattle.model.specs.Bounds.{on_core}
use Rattle.model.specs.Machine.{Stand, stand_at, released, ReleasedIn, Ended}
use Rattle.model.specs.BoundSamples.{a1, a2, set_a}
use Rattle.model.specs.MachineSample.{together}
use Rattle.model.specs.Chains.{Link, same_job}
use Rattle.model.specs.ChainDelays.{link, chain_a}
use Rattle.model.proofs.Released.{released_grows}
use Rattle.model.proofs.Responses.{max_below-at}
use Rattle.model.proofs.Computed.{machine_ticks}
use Rattle.machine.specs.Passing.{nobody, EndedBy, HasPassed, all, next, same}
use Rattle.machine.specs.PassingSample.{PassingSample}

-- job q of a step's task has ended its part
abbrev By : Link → ℕ → ℕ → Type 0
By l q e = EndedBy (set_a 20) (λ core. together) l q e

-- the value that is there at tick 1 has passed these steps
abbrev Passed : List Link → ℕ → Type 0
Passed links v = HasPassed (set_a 20) (λ core. together) nobody links 1 v

-- job 1 of task 1 is released
first_job : ReleasedIn together a1 1 5
unfolding machine_ticks
first_job = record { not_before = lit≤ tt; by_then = lit< tt }

-- it ends
first_end : By (link a1 0) 1 6
unfolding machine_ticks on_core keep Ended
first_end = inl (lit< tt)

-- job 1 of task 2 is released
second_job : ReleasedIn together a2 1 10
unfolding machine_ticks
second_job = record { not_before = lit≤ tt; by_then = lit< tt }

-- it ends part 0
part_end_lem : By (link a2 0) 1 12
unfolding machine_ticks on_core keep Ended
part_end_lem = inr (refl, lit< tt)

-- and part 1
second_end : By (link a2 1) 1 14
unfolding machine_ticks on_core keep Ended
second_end = inl (lit< tt)

-- job 2 of task 2 is released
third_job : ReleasedIn together a2 2 20
unfolding machine_ticks
third_job = record { not_before = lit≤ tt; by_then = lit< tt }

-- it ends part 1
third_end : By (link a2 1) 2 24
unfolding machine_ticks on_core keep Ended
third_end = inl (lit< tt)

-- so the value passes the chain
by_14 : Passed chain_a 14
unfolding same_job
by_14 =
    next tt (lit≤ tt) first_job first_end
    (next refl (lit≤ tt) second_job part_end_lem (same refl (lit≤ tt) second_end (all (lit≤ tt))))

-- and a part twice
by_24 : Passed (link a2 1 ∷ link a2 1 ∷ []) 24
unfolding same_job
by_24 = next tt (lit≤ tt) second_job second_end (next refl (lit≤ tt) third_job third_end (all (lit≤ tt)))

-- where j jobs are released before tick u, one released from then on is job j or a later one
not_earlier : (task : Task) (u j : ℕ) → j ≤ released together task u → (q t : ℕ) → u ≤ t → ReleasedIn together task q t → j ≤ q
not_earlier task u j had q t le r = omega (arith, released_grows together task u t le, r.not_before)

-- where a task stands
abbrev stand : Task → ℕ → Stand
stand task e = stand_at (on_core task.core (set_a 20)) together e task

-- while at most j jobs are done and none is past the part, no job from job j on has ended it
not_ended : (l : Link) (j n : ℕ) → max_below (λ e. (stand l.task e).done) n ≤ j → max_below (λ e. (stand l.task e).at) n ≤ l.part
    → (q e : ℕ) → j ≤ q → By l q e → n ≤ e
unfolding Ended
not_ended l j n few low q e later (inl lt) =
    not_below n e (λ h. omega (arith, max_below-at (λ k. (stand l.task k).done) n e h))
not_ended l j n few low q e later (inr w) =
    not_below n e (λ h. omega (arith, w.1, max_below-at (λ k. (stand l.task k).at) n e h))

-- so it is with task 1 up to tick 5
first_late : (q e : ℕ) → 1 ≤ q → By (link a1 0) q e → 6 ≤ e
unfolding machine_ticks on_core keep max_below
first_late = not_ended (link a1 0) 1 6 (lit≤ tt) (lit≤ tt)

-- and with task 2 up to tick 13
second_late : (q e : ℕ) → 1 ≤ q → By (link a2 1) q e → 14 ≤ e
unfolding machine_ticks on_core keep max_below
second_late = not_ended (link a2 1) 1 14 (lit≤ tt) (lit≤ tt)

-- and, but for its first two jobs, up to tick 23
third_late : (q e : ℕ) → 2 ≤ q → By (link a2 1) q e → 24 ≤ e
unfolding machine_ticks on_core keep max_below
third_late = not_ended (link a2 1) 2 24 (lit≤ tt) (lit≤ tt)

-- not sooner: neither job is its task's first
not_by_13 : Passed chain_a 13 → ⊥
unfolding machine_ticks same_job
not_by_13 (next {t = s} {e = x} new le r end (next {t = t} new' le' r' end' (same {e = y} one le'' end'' (all le''')))) =
    let after : 1 ≤ s = omega arith in
    let first_done : 6 ≤ x = first_late _ x (not_earlier a1 1 1 (lit≤ tt) _ s after r) end in
    let after' : 1 ≤ t = omega arith in
    let second_done : 14 ≤ y = second_late _ y (not_earlier a2 1 1 (lit≤ tt) _ t after' r') end'' in
    omega arith
not_by_13 (next new le r end (next new' le' r' end' (next new'' le'' r'' end'' rest))) = absurd (never refl new'')
not_by_13 (next new le r end (same one le' end' rest)) = absurd (never one refl)

-- nor along the other chain: its first job is not the task's first, and its second comes after that
not_by_23 : Passed (link a2 1 ∷ link a2 1 ∷ []) 23 → ⊥
unfolding machine_ticks same_job
not_by_23 (next {t = s} {e = x} new le r end (next {t = t} {e = y} new' le' r' end' (all le''))) =
    let after : 1 ≤ s = omega arith in
    let second_done : 14 ≤ x = second_late _ x (not_earlier a2 1 1 (lit≤ tt) _ s after r) end in
    let after' : 14 ≤ t = omega arith in
    let third_done : 24 ≤ y = third_late _ y (not_earlier a2 14 2 (lit≤ tt) _ t after' r') end' in
    omega arith
not_by_23 (next new le r end (same one le' end' rest)) = absurd (never one refl)

-- all of it
pub passing_sample : PassingSample
unfolding machine_ticks
passing_sample =
    record {
      first_released = first_job;
      first_done = refl;
      second_released = second_job;
      part_ended = refl;
      second_done = refl;
      passed = by_14;
      not_sooner = not_by_13;
      third_released = third_job;
      third_done = refl;
      passed_twice = by_24;
      not_twice_sooner = not_by_23;
    }
