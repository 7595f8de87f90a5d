-- From what the code keeps of a chain's steps and of its cores' bounds: the sum that it makes is the delay. Assumes nothing.
use Prim.Native.Nat.{ℕ, zero, suc, ◌+◌, ◌≤◌, ◌<◌}
use native.Mathlib.Nat.{add-zero, zero-add}
use native.Mathlib.Omega.{arith}
use borrow.Author.Tests.{eq-eqb}
use mathlib.Core.Path.{◌≡◌, refl, sym, ap, ◌∙◌}
use mathlib.Core.Bool.{Bool}
use mathlib.Core.List.Memᴰ
use mathlib.Core.List.{List, [], ◌∷◌, map, head-eq_of_cons-eq}
use lib.ListN.{length, get_or, take, drop, length-map, length-drop, drop_of_length-le}
use lib.Seq.{ext_get_or}
use lib.Dec.{eqb}
use Rattle.std.specs.Prelude.{Option, Some, None, slice_get}
use Rattle.std.proofs.lemmas.Option.{slice_get_past, slice_get-get_or}
use Rattle.lists.specs.Lists.{◌∈◌, Place, pick, keep, each, total, listed, up_to}
use Rattle.lists.proofs.Tests.{by_test}
use Rattle.lists.proofs.Drops.{place_drop}
use Rattle.lists.proofs.Listed.{listed-length}
use Rattle.lists.proofs.Totals.{total_same}
use Rattle.lists.proofs.Places.{place_in_lem, place_at, place_below, place_some, place_get}
use Rattle.lists.proofs.EachPlaces.{place_listed, place_kept}
use Rattle.model.specs.Task.{Task, parts}
use Rattle.model.specs.Rows.{GoodTask}
use Rattle.model.specs.Bounds.{on_core, bound, row_bounds}
use Rattle.model.specs.Chains.{Link, same_job, bound_of, delay}
use Rattle.model.proofs.Chains.{delay_none, delay-last, delay_anew, delay_same}
use Rattle.model.proofs.Most.{bound-most}
use Rattle.analysis.specs.Analysis.{needed, core_bounds}
use Rattle.analysis.proofs.BoundsPut.{bounds-length}
use Rattle.chains.specs.declared.Spot.{Spot}
use Rattle.chains.specs.Chains.{step_core}
use Rattle.chains.specs.Promises.{start_of, spot_of, IsSpot, no_spot, Spots, OnCores, cores_in, Filled}
use Rattle.chains.specs.Promises.{place_in, bound_in, adding, added_at, StepsInRange}
use Rattle.chains.proofs.Cores.{cores-length, core_at}
use Rattle.chains.proofs.Adding.{sum_more}

-- a row's bound stands where its part says, behind those of the core's rows before it
bound_at : (tasks : List Task) (at : ℕ) (t : Task) → Place tasks at t → (p : ℕ) → p < parts t
    → Place (core_bounds (on_core t.core tasks)) (start_of tasks at t + p) (bound (on_core t.core tasks) t p)
unfolding core_bounds row_bounds start_of on_core
bound_at tasks at t l p h =
    let rows = on_core t.core tasks in
    let own : Task → Bool = λ u. eqb u.core t.core in
    rw (total_same (λ u. length (row_bounds rows u)) parts (keep own (take at tasks)) (λ u m. listed-length (bound rows u) (parts u))) at
    (place_kept own (row_bounds rows) tasks at t l (eq-eqb t.core t.core refl) p (bound rows t p)
    (place_listed (bound rows t) (parts t) p h))

module _ {tasks : List Task} {links : List Link} {spots : List Spot} (k : Spots tasks links spots)
    (good : (t : Task) → t ∈ tasks → GoodTask t) where
  -- step i is inside the chain
  module _ (i : ℕ) (l : Link) (here : Place links i l) where
    -- what is kept of it
    abbrev kept : IsSpot tasks l (get_or spots i no_spot)
    kept = k.spot i l here

    -- where its bound is among its core's
    abbrev its_place : ℕ
    its_place = start_of tasks kept.at l.task + l.part

    -- its task is one of the table's
    its_task : GoodTask l.task
    its_task = good l.task (place_in_lem tasks kept.at l.task kept.row)

    -- its core is that of its task
    its_core_lem : (get_or spots i no_spot).core ≡ l.task.core
    its_core_lem = ap (λ (s : Spot). s.core) kept.is

    -- its bound stands there
    its_bound : Place (core_bounds (on_core l.task.core tasks)) its_place (bound_of tasks l)
    unfolding bound_of
    its_bound = bound_at tasks kept.at l.task kept.row l.part kept.inside

    -- among as many as the core's parts
    its_inside : its_place < needed (on_core l.task.core tasks)
    unfolding needed core_bounds
    its_inside =
        let rows = on_core l.task.core tasks in
        omega (arith, place_below (each (row_bounds rows) rows) _ _ its_bound, bounds-length rows rows)

  -- the cores of its steps are those of the chain, in order
  pub cores_same : cores_in spots ≡ map step_core links
  cores_same = ext_get_or 0 _ _ (all ∙ sym (length-map links step_core)) (λ i h. by i (rw all at h))
    where
      all : length (cores_in spots) ≡ length links
      all = cores-length spots ∙ k.count

      by : (i : ℕ) → i < length links → get_or (cores_in spots) i 0 ≡ get_or (map step_core links) i 0
      by i h =
          let w = place_some links i h in
          core_at spots i ∙ its_core_lem i w.0 w.1 ∙ sym (place_get step_core 0 links i w.0 w.1)

  -- at most 3
  pub on_cores : OnCores spots
  on_cores = record { few = omega (arith, k.few, k.count); core = λ i h. by i (place_some links i (rw k.count at h)) }
    where
      by : (i : ℕ) → (l : Link) × Place links i l → (get_or spots i no_spot).core ≤ 3
      by i w = omega (arith, its_core_lem i w.0 w.1, (its_task i w.0 w.1).core.most)

  -- and with the bounds of every core of the chain
  module _ {rooms : List (List ℕ)} (few : (c : ℕ) → needed (on_core c tasks) ≤ 1024)
      (filled : (c : ℕ) → c ∈ map step_core links → Filled tasks rooms c) where
    -- the bound of step i is found in the rooms
    in_rooms : (i : ℕ) (l : Link) → Place links i l → bound_in rooms (get_or spots i no_spot) ≡ bound_of tasks l
    in_rooms i l here =
        let core = l.task.core in
        let on = filled core (Memᴰ.map step_core (place_in_lem links i l here)) in
        ap (bound_in rooms) (kept i l here).is
        ∙ on.bound _ (its_inside i l here)
        ∙ place_at 0 (core_bounds (on_core core tasks)) _ _ (its_bound i l here)

    -- so the steps can be summed
    pub summable : StepsInRange spots rooms
    unfolding bound_of
    summable =
        record {
          few = omega (arith, k.few, k.count);
          core = on_cores.core;
          inside = λ i h. by_inside i (place_some links i (rw k.count at h));
          period = λ i h. by_period i (place_some links i (rw k.count at h));
          bound = λ i h. by_bound i (place_some links i (rw k.count at h));
        }
      where
        by_inside : (i : ℕ) → (l : Link) × Place links i l → place_in (get_or spots i no_spot) < 1024
        by_inside i w = omega (arith, ap place_in (kept i w.0 w.1).is, its_inside i w.0 w.1, few w.0.task.core)

        by_period : (i : ℕ) → (l : Link) × Place links i l → (get_or spots i no_spot).period ≤ 16777215
        by_period i w =
            omega (arith, ap (λ (s : Spot). s.period) (k.spot i w.0 w.1).is, (its_task i w.0 w.1).period.most)

        by_bound : (i : ℕ) → (l : Link) × Place links i l → bound_in rooms (get_or spots i no_spot) ≤ 16777215
        by_bound i w =
            let l = w.0 in
            omega (arith, in_rooms i l w.1, bound-most (on_core l.task.core tasks) l.task l.part)

    -- what step i adds, by the next one
    adds : (i : ℕ) (l : Link) (here : Place links i l) (next : Option Spot) → slice_get spots (suc i) ≡ next
        → added_at spots rooms i ≡ adding (spot_of tasks (kept i l here).at l) next (bound_of tasks l)
    adds i l here next e = rw (in_rooms i l here, (k.spot i l here).is, e)

    -- is its share of the delay
    shares : (i : ℕ) (l : Link) → Place links i l → added_at spots rooms i + delay tasks (drop (suc i) links) ≡ delay tasks (drop i links)
    unfolding same_job
    shares i l here = rw (place_drop links i l here) (by (drop (suc i) links) refl)
      where
        by : (ls : List Link) → drop (suc i) links ≡ ls → added_at spots rooms i + delay tasks ls ≡ delay tasks (l ∷ ls)
        by [] e =
            let past : length spots ≤ suc i = omega (arith, length-drop (suc i) links, ap length e, k.count) in
            let mine = adds i l here None (slice_get_past spots (suc i) past) in
            rw (mine, delay_none tasks, delay-last tasks l) (add-zero _)
        by (m ∷ ls) e =
            let more : suc i < length links = omega (arith, length-drop (suc i) links, ap length e) in
            let w = place_some links (suc i) more in
            let same : m ≡ w.0 = head-eq_of_cons-eq (sym e ∙ place_drop links (suc i) w.0 w.1) in
            let there = slice_get-get_or spots (suc i) no_spot (rw k.count more) in
            let mine : added_at spots rooms i ≡ pick (same_job l w.0) 0 (l.task.period + bound_of tasks l)
            = adds i l here _ (there ∙ ap Some (kept (suc i) w.0 w.1).is) in
            by_test (same_job l m)
            (λ t. rw (mine, ← same, t, delay_same tasks l m ls t) (zero-add _))
            (λ t. rw (mine, ← same, t, delay_anew tasks l m ls t))

    -- so they are the delay
    sums : (i : ℕ) → i ≤ length links → total (added_at spots rooms) (up_to i) + delay tasks (drop i links) ≡ delay tasks links
    sums zero h = unfold total listed in zero-add _
    sums (suc i) h =
        let w = place_some links i (omega arith) in
        omega (arith, sums i (omega arith), shares i w.0 w.1, sum_more (added_at spots rooms) i)

    -- all of it
    pub sum_is_delay : total (added_at spots rooms) (up_to (length spots)) ≡ delay tasks links
    sum_is_delay =
        let all : length links ≤ length links = omega arith in
        let none : drop (length links) links ≡ [] = drop_of_length-le links all in
        rw k.count (sym (add-zero _) ∙ rw (none, delay_none tasks) at (sums (length links) (omega arith)))
