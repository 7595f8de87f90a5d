-- A periodic run is allowed: it releases at most one job of a task in a tick, and only whole periods after the first tick. In each of
-- these ticks it does release one.
use Prim.Native.Nat.{ℕ, suc, ◌+◌, ◌-◌, ◌*◌, ◌/◌, ◌≤◌, ◌<◌}
use mathlib.Core.Path.{◌≡◌, ap, ◌∙◌}
use native.Mathlib.Omega.{arith}
use native.Mathlib.Nat.{le_refl, suc-mul, mul-le-mul_right, mul-div_cancel}
use lib.Dec.{eqb}
use borrow.Author.Tests.{eqb-true, eq-eqb}
use Rattle.lists.proofs.Tests.{by_test, not_below}
use Rattle.model.specs.Task.{Task}
use Rattle.model.specs.Machine.{released, ReleasedIn}
use Rattle.model.specs.MachineSample.{periodic, PeriodicAllowed}
use Rattle.model.proofs.Released.{released_grows}

module _ (first : Task → ℕ) (task : Task) where
  -- the periods from the first tick to tick t
  periods : ℕ → ℕ
  periods t = (t - first task) / task.period

  -- a tick releases one job, whole periods after the first tick, or none
  one-or_none : (t : ℕ) → ((periodic first).release task t ≤ 1)
      × (0 < (periodic first).release task t → first task + periods t * task.period ≡ t)
  unfolding periodic periods
  one-or_none t =
      by_test (eqb (first task + (t - first task) / task.period * task.period) t)
      (λ e. rw e (omega arith, λ h. eqb-true _ _ e)) (λ e. rw e (omega arith, λ h. absurd (omega arith)))

  -- so two jobs are a period apart
  spaced : (q t u : ℕ) → ReleasedIn (periodic first) task q t → ReleasedIn (periodic first) task (suc q) u
      → t + task.period ≤ u
  unfolding released
  spaced q t u h k =
      let at-t : first task + periods t * task.period ≡ t =
      (one-or_none t).1 (omega (arith, h.not_before, h.by_then)) in
      let at-u : first task + periods u * task.period ≡ u =
      (one-or_none u).1 (omega (arith, k.not_before, k.by_then)) in
      let sooner : t < u =
      not_below (suc t) u
      (λ le.
      omega (
        arith,
        released_grows (periodic first) task (suc u) (suc t) le,
        (one-or_none t).0,
        h.not_before,
        k.by_then,
      )) in
      let more : periods t < periods u =
      not_below (suc (periods t)) (periods u)
      (λ le. omega (arith, mul-le-mul_right {m = periods u} {n = periods t} task.period (omega arith))) in
      omega (arith, mul-le-mul_right task.period more, suc-mul (periods t) task.period)

  -- whole periods after the first tick a job is released
  pub released_then : (n s : ℕ) → 0 < task.period → first task + n * task.period ≡ s
      → ReleasedIn (periodic first) task (released (periodic first) task s) s
  unfolding periodic released periods
  released_then n s positive at-s =
      let count : periods s ≡ n = ap (λ (d : ℕ). d / task.period) (omega arith) ∙ mul-div_cancel n positive in
      let whole : first task + periods s * task.period ≡ s = ap (λ (k : ℕ). first task + k * task.period) count ∙ at-s in
      let one : (periodic first).release task s ≡ 1 = rw (eq-eqb _ _ whole) in
      record { not_before = le_refl _; by_then = omega arith }

-- every periodic run of a good core is allowed
pub periodic_allowed : PeriodicAllowed
unfolding PeriodicAllowed periodic
periodic_allowed rows core first =
    record {
      apart = λ task m q t u h k. spaced first task q t u h k;
      uses = λ task m q t r h inside. record { least = ((core.good task m).time r inside).least; most = omega arith };
    }
