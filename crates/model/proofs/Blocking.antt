-- Laws of `blocking`. Only this file opens it, beside samples that compute it.
use Prim.Native.Nat.{ℕ, suc, ◌-◌, ◌≤◌, ◌<◌}
use mathlib.Core.Path.{◌≡◌}
use mathlib.Core.Bool.{true, false}
use mathlib.Core.List.{List, map}
use native.Mathlib.Omega.{arith}
use Rattle.lists.specs.Lists.{◌∈◌, largest}
use Rattle.lists.proofs.Tests.{by_test}
use Rattle.lists.proofs.Sums.{largest-at, largest-map, largest-most, largest-each, largest_place, largest_made}
use Rattle.model.specs.Task.{Task, parts, part}
use Rattle.model.specs.Rows.{GoodCore}
use Rattle.model.specs.Bounds.{cooperative, lower, blocking}
use Rattle.model.proofs.Rows.{lower_in, in_lower}
use Rattle.model.proofs.Parts.{part_pos}

-- the longest part of a row
abbrev longest : Task → ℕ
longest u = largest u.times

module _ (rows : List Task) (t : Task) where
  -- nothing blocks a preemptive row
  pub no_blocking : cooperative t ≡ false → blocking rows t ≡ 0
  unfolding blocking
  no_blocking e = rw e

  -- a cooperative row is blocked for the longest part among the lower rows, less the tick that it had run before
  pub blocking_is : cooperative t ≡ true → blocking rows t ≡ largest (map longest (lower rows t)) - 1
  unfolding blocking
  blocking_is e = rw e

  -- with that tick it is at least each lower part
  pub blocking-part : cooperative t ≡ true → (u : Task) → u ∈ rows → u.priority < t.priority → (r : ℕ)
      → part u r ≤ suc (blocking rows t)
  unfolding part
  blocking-part e u m h r =
      omega (arith, blocking_is e, largest-at u.times r, largest-map longest (lower rows t) u (in_lower rows t u m h))

  -- and at most what each of them is at most
  pub blocking-most : (n : ℕ) → ((u : Task) → u ∈ rows → u.priority < t.priority → (r : ℕ) → r < parts u → part u r ≤ suc n)
      → blocking rows t ≤ n
  unfolding part parts
  blocking-most n h = by_test (cooperative t) (λ e. omega (arith, blocking_is e, all)) (λ e. rw (no_blocking e) (omega arith))
    where
      all : largest (map longest (lower rows t)) ≤ suc n
      all =
          largest-each longest (lower rows t) (suc n)
          (λ u m. (let low = lower_in rows t u m in largest-most u.times (suc n) (h u low.0 low.1)))

  -- and where there is a lower row some part is as long
  pub blocking_some : GoodCore rows → cooperative t ≡ true → (v : Task) → v ∈ rows → v.priority < t.priority
      → (u : Task) × (u ∈ rows) × (u.priority < t.priority) × (r : ℕ) × (r < parts u) × (part u r ≡ suc (blocking rows t))
  unfolding part parts
  blocking_some core e v m h =
      let low = lower_in rows t at.0 at.1 in
      let part_at = largest_place at.0.times (positive at.0 low.0) in
      (at.0, low.0, low.1, part_at.0, part_at.1, omega (arith, blocking_is e, at.2, part_at.2, positive at.0 low.0))
    where
      positive : (u : Task) → u ∈ rows → 0 < longest u
      positive u k = omega (arith, part_pos u (core.good u k) 0 (core.good u k).count.least, largest-at u.times 0)

      at : (u : Task) × (u ∈ lower rows t) × (longest u ≡ largest (map longest (lower rows t)))
      at = largest_made longest (lower rows t) (omega (arith, positive v m, largest-map longest (lower rows t) v (in_lower rows t v m h)))
