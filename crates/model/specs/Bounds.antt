-- Document 01, "The bounds", with B as document 02, §3, sets it, for the rows of one core. Jobs are numbered by j from 0: the paper's
-- k − 1.
use Rattle.std.specs.Prelude.{ℕ, suc, ◌+◌, ◌-◌, ◌*◌, ◌/◌, Bool, true, false, not, List, [], ◌∷◌, map, eqb, ltb, leb}
use Rattle.std.proofs.Math.Option.{Option, some, none}
use Rattle.lists.specs.Lists.{pick, keep, total, largest, listed}
use Rattle.model.specs.Least.{Found}
use Rattle.std.specs.Prelude.{Some, None}
use Rattle.model.specs.Least.{least, found, value, max_below}
use Rattle.model.specs.Task.{Task, parts, part, parts_before, cost}

unfoldable pub limit : ℕ
limit = 16777215

-- the rows of a core, in table order
unfoldable pub on_core : ℕ → List Task → List Task
on_core c rows = keep (λ t. eqb t.core c) rows

unfoldable pub preemptive : Task → Bool
preemptive t = eqb t.kind 0

unfoldable pub cooperative : Task → Bool
cooperative t = eqb t.kind 1

-- a quotient rounded up, and rounded down
unfoldable pub up : ℕ → ℕ → ℕ
up x t = (x + (t - 1)) / t

unfoldable pub down : ℕ → ℕ → ℕ
down x t = x / t

-- up(x/T): the releases before tick x
unfoldable pub before : Task → ℕ → ℕ
before t x = up x t.period

-- down(x/T) + 1: the releases through tick x
unfoldable pub through : Task → ℕ → ℕ
through t x = down x t.period + 1

module _ (rows : List Task) (t : Task) where
  unfoldable pub higher : List Task
  higher = keep (λ u. ltb t.priority u.priority) rows

  unfoldable pub lower : List Task
  lower = keep (λ u. ltb u.priority t.priority) rows

  -- B: the longest lower part less one tick, since it is in the way only if it had run a tick before (equation 10, as 02 sets it);
  -- a preemptive row has none, and 0 - 1 is 0: none where there is no lower row
  unfoldable pub blocking : ℕ
  blocking = pick (cooperative t) (largest (map (λ u. largest u.times) lower) - 1) 0

  -- L: the least positive length equal to B and the work of this row and all higher ones (4, 9)
  unfoldable pub demand : ℕ → ℕ
  demand x = blocking + total (λ u. before u x * cost u) (t ∷ higher)

  unfoldable pub window : Found
  window = least demand 1 limit

  -- how many jobs are looked at (5)
  unfoldable pub jobs : ℕ
  jobs = before t (value window)

  module _ (r j : ℕ) where
    -- a preemptive row's end of part r of job j (6)
    unfoldable pub preemptive_end : Found
    preemptive_end = least (λ f. total (λ u. before u f * cost u) higher + j * cost t + parts_before t (suc r)) 1 limit

    -- a cooperative row's start of part r of job j (11), with down for the paper's up
    unfoldable pub start : Found
    start = least (λ s. blocking + total (λ u. through u s * cost u) higher + j * cost t + parts_before t r) 0 limit

    -- its end from there (12), with down for the paper's up: only preemptive rows delay a part that has begun
    unfoldable pub end_from : Found → Found
    end_from (Some s) =
        least (λ f. s + part t r + total (λ u. (before u f - through u s) * cost u) (keep preemptive rows)) (s + part t r) limit
    end_from None = None

    unfoldable pub finish : Found
    finish = elim (cooperative t) [ true ↦ end_from start | false ↦ preemptive_end ]

    -- how long after its release job j ends part r (7)
    unfoldable pub response : ℕ
    response = value finish - j * t.period

  -- the bound of part r: the largest over the jobs (8)
  unfoldable pub bound : ℕ → ℕ
  bound r = max_below (response r) jobs

  -- the bounds of all its parts, in order
  unfoldable pub row_bounds : List ℕ
  row_bounds = listed bound (parts t)

  unfoldable pub meets_deadline : Bool
  meets_deadline = leb (bound (parts t - 1)) t.deadline

-- the higher of a row and what is found among others
unfoldable pub above : Task → Option Task → Task
above t none = t
above t (some u) = pick (ltb t.priority u.priority) u t

-- the highest-priority row that passes a test
unfoldable pub highest : (Task → Bool) → List Task → Option Task
highest p [] = none
highest p (t ∷ ts) = pick (p t) (some (above t (highest p ts))) (highest p ts)

-- its id, 0 for none
unfoldable pub id_of : Option Task → ℕ
id_of none = 0
id_of (some t) = t.id

-- what is said of a core: it passes, or the highest row that has no window up to the limit, or else that misses its deadline
pub data CoreVerdict : Type 0 where
  passes : CoreVerdict
  no_window : Task → CoreVerdict
  misses : Task → CoreVerdict

unfoldable pub judged_by : Option Task → Option Task → CoreVerdict
judged_by (some t) late = no_window t
judged_by none (some t) = misses t
judged_by none none = passes

unfoldable pub core_verdict : List Task → CoreVerdict
core_verdict rows =
    judged_by (highest (λ t. not (found (window rows t))) rows) (highest (λ t. not (meets_deadline rows t)) rows)
