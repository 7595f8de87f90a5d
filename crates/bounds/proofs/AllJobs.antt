-- A row, job by job: each job stands where the one before it ended, and after the last the bounds are the model's.
use Prim.Native.Nat.{ℕ, zero, suc, ◌+◌, ◌*◌, ◌≤◌, ◌<◌, max}
use mathlib.Core.Path.{◌≡◌, refl, sym, ap, ap₂, ◌∙◌}
use mathlib.Core.List.{List, [], ◌∷◌}
use native.Mathlib.Nat.{zero-mul, suc-mul}
use native.Mathlib.Omega.{arith}
use lib.ListN.{length, get_or, take, drop, get_or-replicate, length-replicate}
use lib.Seq.{take-length}
use Rattle.lists.specs.Lists.{listed, sum}
use Rattle.lists.proofs.Listed.{listed_is, listed_at, listed-length}
use Rattle.model.specs.Task.{cost, parts}
use Rattle.model.specs.Least.{value, max_below}
use Rattle.model.specs.Bounds.{up, before, higher, blocking, jobs, response, bound, row_bounds}
use Rattle.model.proofs.Rounding.{before_is, before_more, before-least}
use Rattle.model.proofs.Rows.{period_pos}
use Rattle.model.proofs.Exists.{window-most, inside}
use Rattle.bounds.specs.declared.Own.{Own}
use Rattle.bounds.specs.declared.Load.{Load}
use Rattle.bounds.specs.Loads.{loads, first_period, first_cost}
use Rattle.bounds.specs.Promises.{Warm, AtJob, OwnRow, job_at, bounds_after, bounds_in}
use Rattle.bounds.proofs.Jobs.{job_warm, response_is}

-- the first row's period, as code reads it
pub first_period-at : (rows : List Load) (d : Load) → 0 < length rows → (get_or rows 0 d).period ≡ first_period rows
first_period-at [] d h = absurd (omega arith)
first_period-at (l ∷ more) d h = refl

-- and its cost
pub first_cost-at : (rows : List Load) (d : Load) → 0 < length rows → (get_or rows 0 d).cost ≡ first_cost rows
first_cost-at [] d h = absurd (omega arith)
first_cost-at (l ∷ more) d h = refl

-- as many bounds as parts, after each job
after-length : (own_first preempts : List Load) (own : Own) (times : List ℕ) (j : ℕ)
    → length (bounds_after own_first preempts own times j) ≡ length times
unfolding bounds_after
after-length own_first preempts own times zero = length-replicate (length times) 0
after-length own_first preempts own times (suc j) = listed-length _ (length times)

module _ {own_first preempts : List Load} {own : Own} {times : List ℕ} (g : OwnRow own_first preempts own times) where
  open g use {rows, t, core, row}

  -- the row's own period stands first
  own-period : first_period own_first ≡ t.period
  own-period = ap first_period g.loaded

  -- with its cost
  own-cost : first_cost own_first ≡ cost t
  own-cost = ap first_cost g.loaded

  -- which its times sum up to
  pub times-cost : sum (take (length times) times) ≡ first_cost own_first
  unfolding cost
  times-cost = ap sum (take-length times ∙ g.timed) ∙ sym own-cost

  -- and the higher rows' numbers behind them
  highers_are : drop 1 own_first ≡ loads (higher rows t)
  highers_are = ap (drop 1) g.loaded

  -- so there is a first row
  pub has_own : 0 < length own_first
  has_own = omega (arith, ap length g.loaded)

  -- the row's window is in range
  pub window_small : own.window ≤ 16777215
  window_small = window-most rows core t row own.window g.windowed

  -- so many jobs are looked at
  count_is : up own.window (first_period own_first) ≡ before t own.window
  count_is = rw own-period (sym (before_is t own.window))

  -- before job j stand the blocking and the jobs before it
  base_is : (j : ℕ) → (job_at own_first preempts own times j).base ≡ blocking rows t + j * cost t
  unfolding job_at
  base_is zero = omega (arith, g.blocks, zero-mul (cost t))
  base_is (suc j) = omega (arith, base_is j, own-cost, suc-mul j (cost t))

  -- and it is released after as many periods
  release_is : (j : ℕ) → (job_at own_first preempts own times j).release ≡ j * t.period
  unfolding job_at
  release_is zero = sym (zero-mul t.period)
  release_is (suc j) = omega (arith, release_is j, own-period, suc-mul j t.period)

  -- job j stands before its first part
  abbrev standing : (j : ℕ) → j < before t own.window
      → Warm rows t (job_at own_first preempts own times j).base (job_at own_first preempts own times j).from
      → AtJob (drop 1 own_first) preempts own.cooperative (job_at own_first preempts own times j) times
  standing j h w =
      record {
        j = j;
        seen =
            record {
              rows = rows;
              t = t;
              L = own.window;
              core = core;
              row = row;
              windowed = g.windowed;
              higher_is = highers_are;
              preemptive_is = g.preemptive_is;
              kind = g.kind;
            };
        inside = h;
        done = base_is j;
        warm = w;
        released = release_is j;
        timed = g.timed;
      }

  -- its search begins where it may
  warm_at : (j : ℕ) → j ≤ before t own.window
      → Warm rows t (job_at own_first preempts own times j).base (job_at own_first preempts own times j).from
  unfolding job_at
  warm_at zero h = record { above = omega arith; rises = omega arith; low = λ y a b. omega arith }
  warm_at (suc j) h = rw own-cost (job_warm (standing j (omega arith) (warm_at j (omega arith))))

  module _ (j : ℕ) (h : j < up own.window (first_period own_first)) where
    -- what the code stands before
    pub at-job : AtJob (drop 1 own_first) preempts own.cooperative (job_at own_first preempts own times j) times
    at-job = standing j (omega (arith, count_is)) (warm_at j (omega (arith, count_is)))

    -- the job's work fits in the window
    pub base_small : (job_at own_first preempts own times j).base + first_cost own_first ≤ 16777215
    base_small =
        omega (arith, base_is j, own-cost, inside rows core t row own.window g.windowed j (omega (arith, count_is)), window_small)

  -- a job that is released in the window is looked at
  pub job_in_window : (j : ℕ) → (job_at own_first preempts own times j).release < own.window → j < up own.window (first_period own_first)
  job_in_window j h =
      omega (arith, count_is, before_more t (period_pos rows core t row) j own.window (omega (arith, release_is j)))

  -- and no other
  pub jobs_past_window : (j : ℕ) → own.window ≤ (job_at own_first preempts own times j).release → up own.window (first_period own_first) ≤ j
  jobs_past_window j h =
      omega (arith, count_is, before-least t (period_pos rows core t row) j own.window (omega (arith, release_is j)))

  -- the bounds so far are the largest responses
  largest_so_far : (j : ℕ) → j ≤ up own.window (first_period own_first) → (r : ℕ) → r < length times
      → get_or (bounds_after own_first preempts own times j) r 0 ≡ max_below (response rows t r) j
  unfolding bounds_after max_below
  largest_so_far zero h r k = get_or-replicate (length times) r 0 0 k
  largest_so_far (suc j) h r k =
      listed_at _ (length times) r 0 k
      ∙ ap₂ max (largest_so_far j (omega arith) r k)
      (response_is (standing j (omega (arith, count_is)) (warm_at j (omega (arith, count_is)))) r k)

  -- after the last job they are the row's
  pub bounds-own : bounds_in own_first preempts own times ≡ row_bounds rows t
  unfolding bounds_in row_bounds bound jobs value parts
  bounds-own =
      let n : ℕ = up own.window (first_period own_first) in
      let same = after-length own_first preempts own times n in
      listed_is (bound rows t) 0 (bounds_after own_first preempts own times n)
      (λ r k. largest_so_far n (omega arith) r (omega (arith, same)) ∙ ap (max_below (response rows t r)) all)
      ∙ ap (listed (bound rows t)) (same ∙ ap length g.timed)
    where
      all : up own.window (first_period own_first) ≡ jobs rows t
      all = count_is ∙ ap (λ f. before t (value f)) (sym g.windowed)
