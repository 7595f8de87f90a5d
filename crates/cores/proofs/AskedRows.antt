-- What is asked of a core's rows is what the model says of them: the rows of a sum, the blocking. Assumes nothing.
use Prim.Native.Nat.{ℕ, ◌-◌}
use mathlib.Core.Path.{◌≡◌, sym, ap, ◌∙◌}
use mathlib.Core.Bool.{Bool}
use mathlib.Core.List.{List, ◌∷◌, map, map-map}
use lib.Dec.{eqb, ltb}
use Rattle.lists.specs.Lists.{keep, largest, Place}
use Rattle.lists.proofs.Tests.{by_test}
use Rattle.lists.proofs.Keep.{keep-map}
use Rattle.lists.proofs.Places.{place_get}
use Rattle.model.specs.Task.{Task}
use Rattle.model.specs.Bounds.{preemptive, cooperative, higher, lower, blocking}
use Rattle.model.proofs.Blocking.{no_blocking, blocking_is}
use Rattle.table.proofs.Stored.{tasks-stored}
use Rattle.bounds.specs.Loads.{load, loads}
use Rattle.cores.specs.declared.Asked.{Asked}
use Rattle.cores.specs.Cores.{asked_of, asked_nothing, core_of, tasks_in}
use Rattle.cores.specs.Promises.{wanted_loads, asked_at, own_first, preemptive_loads, longest_below, blocking_in}

-- the rows of a core's value are its rows
pub tasks_in_lem : (rows : List Task) → tasks_in (core_of rows) ≡ rows
tasks_in_lem rows = tasks-stored rows

-- the loads of the rows wanted are the loads of these rows
loads_are : (p : Asked → Bool) (rows : List Task) → wanted_loads p (map asked_of rows) ≡ loads (keep (λ t. p (asked_of t)) rows)
loads_are p rows =
    ap (map (λ (a : Asked). a.load)) (keep-map p asked_of rows)
    ∙ map-map (λ (a : Asked). a.load) asked_of (keep (λ t. p (asked_of t)) rows)

-- those of the preemptive rows
pub preemptive_is : (rows : List Task) → preemptive_loads (map asked_of rows) ≡ loads (keep preemptive rows)
unfolding preemptive
preemptive_is rows = loads_are (λ a. eqb a.kind 0) rows

-- the longest part among the rows below a priority
longest_is : (priority : ℕ) (rows : List Task)
    → longest_below priority (map asked_of rows) ≡ largest (map (λ u. largest u.times) (keep (λ u. ltb u.priority priority) rows))
longest_is priority rows =
    let below : List Task = keep (λ u. ltb u.priority priority) rows in
    ap (λ (l : List Asked). largest (map (λ a. a.longest) l)) (keep-map (λ a. ltb a.priority priority) asked_of rows)
    ∙ ap largest (map-map (λ a. a.longest) asked_of below)

module _ (rows : List Task) (i : ℕ) (t : Task) (at : Place rows i t) where
  -- what is asked of row i
  pub asked_is : asked_at (map asked_of rows) i ≡ asked_of t
  asked_is = place_get asked_of asked_nothing rows i t at

  -- its load first, those of the higher rows behind
  pub own_first_is : own_first (map asked_of rows) i ≡ loads (t ∷ higher rows t)
  unfolding higher
  own_first_is = rw asked_is (ap (◌∷◌ (load t)) (loads_are (λ a. ltb t.priority a.priority) rows))

  -- its blocking
  pub blocking_in_is : blocking_in (map asked_of rows) i ≡ blocking rows t
  unfolding cooperative lower
  blocking_in_is =
      rw asked_is
      (by_test (cooperative t)
      (λ e. rw e (ap (λ n. n - 1) (longest_is t.priority rows) ∙ sym (blocking_is rows t e)))
      (λ e. rw e (sym (no_blocking rows t e))))
