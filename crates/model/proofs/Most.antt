-- A bound is at most the limit, whatever the rows. Assumes nothing.
use Prim.Native.Nat.{ℕ, zero, suc, ◌≤◌}
use native.Mathlib.Omega.{arith}
use mathlib.Core.List.{List}
use Rattle.lists.proofs.Tests.{by_test}
use Rattle.model.specs.Least.{Found}
use Rattle.std.specs.Prelude.{Some, None}
use Rattle.model.specs.Task.{Task}
use Rattle.model.specs.Least.{least, value, max_below, Says}
use Rattle.model.specs.Bounds.{limit, cooperative, preemptive_end, start, end_from, finish, response, bound, jobs}
use Rattle.model.proofs.Least.{least_says}

-- what is found lies within the limit
pub value-most : (g : ℕ → ℕ) (from most : ℕ) (a : Found) → Says g from most a → value a ≤ most
unfolding value
value-most g from most (Some x) s = s.within
value-most g from most None s = omega arith

-- the least solution is
least-most : (g : ℕ → ℕ) (from : ℕ) → value (least g from limit) ≤ limit
least-most g from = value-most g from limit (least g from limit) (least_says g from limit)

-- so is the largest of some
max-most : (h : ℕ → ℕ) (n m : ℕ) → ((k : ℕ) → h k ≤ m) → max_below h n ≤ m
unfolding max_below
max-most h zero m e = omega arith
max-most h (suc n) m e = omega (arith, max-most h n m e, e n)

module _ (rows : List Task) (t : Task) (r : ℕ) where
  -- a cooperative end
  end-most : (j : ℕ) (x : Found) → value (end_from rows t r j x) ≤ limit
  unfolding end_from
  end-most j (Some s) = least-most _ _
  end-most j None = unfold value in omega arith

  -- either end
  finish-most : (j : ℕ) → value (finish rows t r j) ≤ limit
  unfolding finish preemptive_end
  finish-most j =
      by_test (cooperative t) (λ e. rw (e, finish) (end-most j (start rows t r j)))
      (λ e. rw (e, finish) (least-most _ _))

  -- so the largest response
  pub bound-most : bound rows t r ≤ 16777215
  unfolding bound response limit
  bound-most = max-most _ (jobs rows t) 16777215 (λ j. omega (arith, finish-most j))
