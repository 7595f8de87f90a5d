-- A row above one that has a window has a window too, and no longer one.
use Prim.Native.Nat.{ℕ, suc, ◌+◌, ◌-◌, ◌*◌, ◌≤◌, ◌<◌}
use mathlib.Core.Path.{◌≡◌, ap}
use mathlib.Core.Bool.{Bool, true}
use mathlib.Core.List.{List}
use mathlib.Core.Logic.{⊎_elim}
use native.Mathlib.Nat.{le_trans, le_refl, mul-le-mul_right}
use native.Mathlib.Omega.{arith}
use lib.Dec.{ltb, leb}
use borrow.Author.Tests.{lt-ltb, le-ltb, ltb-true, le-leb, lt-leb, leb-true}
use Rattle.lists.specs.Lists.{◌∈◌, keep, total}
use Rattle.lists.proofs.Tests.{by_test, either}
use Rattle.lists.proofs.Totals.{total_newly}
use Rattle.std.specs.Prelude.{Some}
use Rattle.model.specs.Task.{Task, part, cost}
use Rattle.model.specs.Rows.{GoodCore}
use Rattle.model.specs.Bounds.{limit, cooperative, before, higher, blocking, demand, window}
use Rattle.model.proofs.Climb.{least_exists}
use Rattle.model.proofs.Rounding.{before_pos}
use Rattle.model.proofs.Rows.{period_pos, preemptive-higher, other_kind, same_row}
use Rattle.model.proofs.Parts.{part-fits, cost_pos}
use Rattle.model.proofs.Blocking.{no_blocking, blocking-part, blocking-most}
use Rattle.model.proofs.Demand.{work, demand_is, demand_mono, demand-cost}
use Rattle.model.proofs.Exists.{the_window}

module _ (rows : List Task) (core : GoodCore rows) (t : Task) (m : t ∈ rows) (L : ℕ) (w : window rows t ≡ Some L)
    (u : Task) (n : u ∈ rows) (above : t.priority < u.priority) where
  -- the upper row's work and that of its higher rows is all asked for above t
  upper : before u L * cost u + work (higher rows u) L ≤ work (higher rows t) L
  unfolding higher
  upper =
      total_newly (λ x. ltb u.priority x.priority) (λ x. ltb t.priority x.priority) (λ x. before x L * cost x) rows
      (λ x l e. lt-ltb t.priority x.priority (omega (arith, ltb-true u.priority x.priority e)))
      u n (le-ltb u.priority u.priority (le_refl _)) (lt-ltb t.priority u.priority above)

  -- with the work of a row in between
  between : (v : Task) → v ∈ rows → t.priority < v.priority → v.priority < u.priority
      → before v L * cost v + (before u L * cost u + work (higher rows u) L) ≤ work (higher rows t) L
  unfolding higher
  between v k a b =
      let all : before u L * cost u + work (higher rows u) L ≤ total (λ x. before x L * cost x) (keep at_least rows) =
      total_newly (λ x. ltb u.priority x.priority) at_least (λ x. before x L * cost x) rows
      (λ x l e. le-leb u.priority x.priority (omega (arith, ltb-true u.priority x.priority e)))
      u n (le-ltb u.priority u.priority (le_refl _)) (le-leb u.priority u.priority (le_refl _)) in
      let more : before v L * cost v + total (λ x. before x L * cost x) (keep at_least rows) ≤ work (higher rows t) L =
      total_newly at_least (λ x. ltb t.priority x.priority) (λ x. before x L * cost x) rows
      (λ x l e. lt-ltb t.priority x.priority (omega (arith, leb-true u.priority x.priority e)))
      v k (lt-leb u.priority v.priority b) (lt-ltb t.priority v.priority a) in
      omega arith
    where
      at_least : Task → Bool
      at_least x = leb u.priority x.priority

  -- the window's length is what it asks for
  asked : L ≡ blocking rows t + (before t L * cost t + work (higher rows t) L)
  asked = omega (arith, (the_window rows core t m L w).solves, demand_is rows t L)

  -- and it is positive
  positive : 0 < L
  positive = (the_window rows core t m L w).above

  -- over a cooperative row each part below the upper row is no longer than what L leaves it, and a tick
  blocked : cooperative t ≡ true → (v : Task) → v ∈ rows → v.priority < u.priority → (r : ℕ)
      → part v r ≤ suc (L - (before u L * cost u + work (higher rows u) L))
  blocked c v k b r =
      ⊎_elim (λ lower. omega (arith, asked, upper, blocking-part rows t c v k lower r))
      (λ not_lower.
      ⊎_elim (λ inside. omega (arith, asked, between v k inside b, within v k))
      (λ not_above.
      (let same : v ≡ t = same_row rows core.distinct v t k m (omega arith) in
      omega (arith, asked, upper, within t m, ap (λ (x : Task). part x r) same)))
      (either t.priority v.priority))
      (either v.priority t.priority)
    where
      within : (x : Task) → x ∈ rows → part x r ≤ before x L * cost x
      within x l =
          let once : 1 * cost x ≤ before x L * cost x = mul-le-mul_right (cost x) (before_pos x (period_pos rows core x l) L positive) in
          omega (arith, part-fits x (core.good x l) r)

  -- the upper row asks for no more than L
  ends : demand rows u L ≤ L
  ends =
      by_test (cooperative u)
      (λ c. omega (arith, asked, upper, demand_is rows u L, blocking-most rows u _ (λ v k b r q. blocked (lower-kind c) v k b r)))
      (λ c. omega (arith, asked, upper, demand_is rows u L, no_blocking rows u c))
    where
      lower-kind : cooperative u ≡ true → cooperative t ≡ true
      lower-kind c =
          by_test (cooperative t) (λ e. e)
          (λ e.
          absurd (omega (arith, preemptive-higher rows core u n c t m (other_kind t (core.good t m) e))))

  -- so it has a window
  pub higher-window : (M : ℕ) × (window rows u ≡ Some M) × (M ≤ L)
  unfolding window
  higher-window =
      least_exists (demand rows u) 1 limit L (demand_mono rows u)
      (le_trans (cost_pos u (core.good u n)) (demand-cost rows u (period_pos rows core u n) 1 (le_refl 1)))
      positive (the_window rows core t m L w).within ends
