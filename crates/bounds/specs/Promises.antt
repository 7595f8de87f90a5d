-- Inner: what the walk over a row's jobs and parts works out, in numbers alone, and what its functions ask of their callers.
use Rattle.std.specs.Prelude.{ℕ, zero, suc, ◌+◌, ◌-◌, ◌*◌, ◌<◌, max, ◌≡◌, Bool, true, false, Some}
use Rattle.std.specs.Prelude.{List, ◌∷◌, length, get_or, take, drop, replicate}
use Rattle.lists.specs.Lists.{◌∈◌, keep, sum, total, listed}
use Rattle.model.specs.Task.{Task, cost, parts, part, parts_before}
use Rattle.model.specs.Rows.{GoodCore}
use Rattle.model.specs.Least.{Under}
use Rattle.model.specs.Bounds.{up, preemptive, cooperative, before, higher, blocking, window}
use Rattle.bounds.specs.declared.Load.{Load}
use Rattle.bounds.specs.declared.PartEnd.{PartEnd}
use Rattle.bounds.specs.declared.Job.{Job}
use Rattle.bounds.specs.declared.Own.{Own}
use Rattle.bounds.specs.Loads.{loads, first_period, first_cost, work_at, solution}

-- a part that starts in the tick before `after`: its end over the preemptive rows' work behind its start
unfoldable pub end_from_start : List Load → ℕ → ℕ → PartEnd
end_from_start preempts after time =
    record { end = solution preempts (after - 1 + time - work_at preempts after) (after - 1 + time); next = after - 1 + time }

-- the end of a part, by the row's kind; its searches begin at `from`
unfoldable pub end_of_part : List Load → List Load → Bool → ℕ → ℕ → ℕ → PartEnd
end_of_part highers preempts true base from time = end_from_start preempts (solution highers (base + 1) (from + 1)) time
end_of_part highers preempts false base from time =
    record { end = solution highers (base + time) (from + time); next = solution highers (base + time) (from + time) }

-- what stands before part r of a job
abbrev pub base_at : Job → List ℕ → ℕ → ℕ
base_at job times r = job.base + sum (take r times)

module _ (highers preempts : List Load) (coop : Bool) (job : Job) (times : List ℕ) where
  -- where the search for part r begins
  unfoldable pub from_at : ℕ → ℕ
  from_at zero = job.from
  from_at (suc r) = (end_of_part highers preempts coop (base_at job times r) (from_at r) (get_or times r 0)).next

  -- its end
  abbrev pub part_end_at : ℕ → ℕ
  part_end_at r = (end_of_part highers preempts coop (base_at job times r) (from_at r) (get_or times r 0)).end

  -- where the next job's search may begin
  abbrev pub job_next : ℕ
  job_next = from_at (length times)

  -- the bound of part r, raised to the job's response
  abbrev pub raised_at : List ℕ → ℕ → ℕ
  raised_at old r = max (get_or old r 0) (part_end_at r - job.release)

  -- all bounds raised
  abbrev pub raised : List ℕ → List ℕ
  raised old = listed (raised_at old) (length times)

module _ (rows preempts : List Load) (own : Own) (times : List ℕ) where
  -- job j of the first row
  unfoldable pub job_at : ℕ → Job
  job_at zero = record { base = own.blocking; from = own.blocking; release = 0 }
  job_at (suc j) =
      record {
        base = (job_at j).base + first_cost rows;
        from = job_next (drop 1 rows) preempts own.cooperative (job_at j) times;
        release = (job_at j).release + first_period rows;
      }

  -- the bounds over the first j jobs
  unfoldable pub bounds_after : ℕ → List ℕ
  bounds_after zero = replicate (length times) 0
  bounds_after (suc j) = raised (drop 1 rows) preempts own.cooperative (job_at j) times (bounds_after j)

  -- the bounds over all jobs that are released in the window
  unfoldable pub bounds_in : List ℕ
  bounds_in = bounds_after (up own.window (first_period rows))

-- what a job leaves
pub record JobLeft (highers preempts : List Load) (coop : Bool) (job : Job) (times old new : List ℕ) (base next : ℕ) : Type 0 where
  pub bounds : new ≡ raised highers preempts coop job times old
  pub done : base ≡ base_at job times (length times)
  pub at : next ≡ job_next highers preempts coop job times

-- `from` is at or below the least solution for a base over the higher rows
abbrev pub Warm : List Task → Task → ℕ → ℕ → Type 0
Warm rows t base from = Under (λ y. base + total (λ u. before u y * cost u) (higher rows t)) 0 from

-- a row of a core with its window, the higher rows and the preemptive rows
pub record Seen (highers preempts : List Load) (coop : Bool) : Type 0 where
  pub rows : List Task
  pub t : Task
  pub L : ℕ
  pub core : GoodCore rows
  pub row : t ∈ rows
  pub windowed : window rows t ≡ Some L
  pub higher_is : highers ≡ loads (higher rows t)
  pub preemptive_is : preempts ≡ loads (keep preemptive rows)
  pub kind : coop ≡ cooperative t

-- the row with its own numbers in front of the higher rows', its kind, blocking and window, and its times
pub record OwnRow (own_first preempts : List Load) (own : Own) (times : List ℕ) : Type 0 where
  pub rows : List Task
  pub t : Task
  pub core : GoodCore rows
  pub row : t ∈ rows
  pub loaded : own_first ≡ loads (t ∷ higher rows t)
  pub preemptive_is : preempts ≡ loads (keep preemptive rows)
  pub kind : own.cooperative ≡ cooperative t
  pub blocks : own.blocking ≡ blocking rows t
  pub windowed : window rows t ≡ Some own.window
  pub timed : times ≡ t.times

-- job j of a row stands before its first part
pub record AtJob (highers preempts : List Load) (coop : Bool) (job : Job) (times : List ℕ) : Type 0 where
  pub seen : Seen highers preempts coop
  pub j : ℕ
  pub inside : j < before seen.t seen.L
  pub done : job.base ≡ blocking seen.rows seen.t + j * cost seen.t
  pub warm : Warm seen.rows seen.t job.base job.from
  pub released : job.release ≡ j * seen.t.period
  pub timed : times ≡ seen.t.times

-- it stands before part r
pub record AtPart (highers preempts : List Load) (coop : Bool) (base from time : ℕ) : Type 0 where
  pub seen : Seen highers preempts coop
  pub j : ℕ
  pub r : ℕ
  pub inside : j < before seen.t seen.L
  pub within : r < parts seen.t
  pub done : base ≡ blocking seen.rows seen.t + j * cost seen.t + parts_before seen.t r
  pub warm : Warm seen.rows seen.t base from
  pub timed : time ≡ part seen.t r
