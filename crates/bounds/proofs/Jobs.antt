-- One job, part by part: each part's end is the model's, and the next part stands where this one ended.
use Prim.Native.Nat.{ℕ, zero, suc, ◌+◌, ◌-◌, ◌≤◌, ◌<◌}
use mathlib.Core.Path.{◌≡◌, sym, ap, subst, ◌∙◌}
use mathlib.Core.Bool.{Bool, true, false}
use mathlib.Core.List.{List}
use native.Mathlib.Omega.{arith}
use lib.ListN.{length, get_or, take}
use Rattle.lists.specs.Lists.{sum}
use Rattle.lists.proofs.Sums.{sum-suc}
use Rattle.std.specs.Prelude.{Some}
use Rattle.model.specs.Task.{cost, parts, part, parts_before}
use Rattle.model.specs.Least.{value}
use Rattle.model.specs.Bounds.{finish, response}
use Rattle.model.proofs.Parts.{parts-zero, parts_all}
use Rattle.model.proofs.Exists.{window-most, finish_range}
use Rattle.bounds.specs.declared.Load.{Load}
use Rattle.bounds.specs.declared.Job.{Job}
use Rattle.bounds.specs.Promises.{Warm, AtJob, AtPart, end_of_part, base_at, from_at, part_end_at, job_next}
use Rattle.bounds.proofs.Walk.{IsEnd, preemptive-found}
use Rattle.bounds.proofs.Begun.{cooperative-found}

-- a part of either kind ends where its searches say
part_ends : {highers preempts : List Load} {coop : Bool} {base from time : ℕ} (a : AtPart highers preempts coop base from time)
    → IsEnd a (end_of_part highers preempts coop base from time)
part_ends {coop = true} a = cooperative-found a
part_ends {coop = false} a = preemptive-found a

module _ {highers preempts : List Load} {coop : Bool} {job : Job} {times : List ℕ} (a : AtJob highers preempts coop job times) where
  open a use {seen, j}
  open seen use {rows, t, L, core, row, windowed}

  -- there is a time for each part
  pub count : length times ≡ parts t
  unfolding parts
  count = ap length a.timed

  -- the parts before part r take this
  sum_is : (r : ℕ) → sum (take r times) ≡ parts_before t r
  unfolding parts_before
  sum_is r = ap (λ (xs : List ℕ). sum (take r xs)) a.timed

  -- and part r this
  time_is : (r : ℕ) → get_or times r 0 ≡ part t r
  unfolding part
  time_is r = ap (λ (xs : List ℕ). get_or xs r 0) a.timed

  -- the job stands before part r
  abbrev standing : (r : ℕ) → r < length times → Warm rows t (base_at job times r) (from_at highers preempts coop job times r)
      → AtPart highers preempts coop (base_at job times r) (from_at highers preempts coop job times r) (get_or times r 0)
  standing r h w =
      record {
        seen = seen;
        j = j;
        r = r;
        inside = a.inside;
        within = omega (arith, count);
        done = omega (arith, sum_is r, a.done);
        warm = w;
        timed = time_is r;
      }

  -- its search begins where it may
  part_warm : (r : ℕ) → r ≤ length times → Warm rows t (base_at job times r) (from_at highers preempts coop job times r)
  unfolding from_at
  part_warm zero h =
      subst (λ (b : ℕ). Warm rows t b job.from) (omega (arith, sum_is 0, parts-zero t)) a.warm
  part_warm (suc r) h =
      subst (λ (b : ℕ). Warm rows t b (from_at highers preempts coop job times (suc r))) (omega (arith, sum-suc times r))
      (part_ends (standing r (omega arith) (part_warm r (omega arith)))).warm

  -- so it does for the next job
  pub job_warm : Warm rows t (job.base + cost t) (job_next highers preempts coop job times)
  job_warm =
      subst (λ (b : ℕ). Warm rows t b (job_next highers preempts coop job times))
      (omega (arith, sum_is (length times), parts_all t (length times) (omega (arith, count))))
      (part_warm (length times) (omega arith))

  module _ (r : ℕ) (h : r < length times) where
    -- what the code stands before
    pub at_part : AtPart highers preempts coop (base_at job times r) (from_at highers preempts coop job times r) (get_or times r 0)
    at_part = standing r h (part_warm r (omega arith))

    -- the part's end
    part_ended : finish rows t r j ≡ Some (part_end_at highers preempts coop job times r)
    part_ended = (part_ends (standing r h (part_warm r (omega arith)))).ends

    -- lies after the release and within the limit
    pub end_range : (job.release ≤ part_end_at highers preempts coop job times r)
        × (part_end_at highers preempts coop job times r ≤ 16777215)
    end_range =
        let range = finish_range rows core t row L windowed r j (omega (arith, count)) a.inside in
        let found : Some (part_end_at highers preempts coop job times r) ≡ Some range.f = sym part_ended ∙ range.ends in
        let same : part_end_at highers preempts coop job times r ≡ range.f = cc in (
          omega (arith, a.released, range.late),
          omega (arith, range.within, window-most rows core t row L windowed),
        )

    -- and its response is what the code works out
    pub response_is : part_end_at highers preempts coop job times r - job.release ≡ response rows t r j
    unfolding response value
    response_is = omega (arith, a.released, ap value part_ended)
