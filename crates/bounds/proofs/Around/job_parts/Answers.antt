-- `bounds::Around::job_parts` meets its contract: the parts before r are raised, and the job stands before part r.
use Prim.Native.Nat.{◌≤◌}
use mathlib.Core.Path.{◌≡◌, refl, sym, ap, ◌∙◌}
use native.Mathlib.Numerals.{add-one}
use native.Mathlib.Omega.{arith}
use lib.ListN.{length, get_or}
use Rattle.lists.specs.Lists.{sum, listed}
use Rattle.lists.proofs.Sums.{sum-suc}
use Rattle.lists.proofs.Overs.{over_none}
use Rattle.lists.proofs.ListedOvers.{over-listed-at, over-listed-set, over-listed-all}
use Rattle.bounds.specs.Promises.{end_of_part, base_at, from_at}
use Rattle.bounds.proofs.Walk.{sums_small}
use Rattle.bounds.proofs.Jobs.{at_part, end_range}
use Rattle.bounds.proofs.Around.job_parts.Goals.{After-part_end-part}
use Rattle.bounds.proofs.Around.job_parts.Goals as goal

-- what part r's searches answer
answered : (c : After-part_end-part)
    → c.part_end-part.result
    ≡ end_of_part c.args.self.higher.rows.now c.args.self.preemptive.rows.now c.args.self.cooperative
    (base_at c.args.job c.args.times.now c.loop-r.r)
    (from_at c.args.self.higher.rows.now c.args.self.preemptive.rows.now c.args.self.cooperative c.args.job c.args.times.now c.loop-r.r)
    (get_or c.args.times.now c.loop-r.r 0)
answered c = rw (← c.loop-r.invariant.base, ← c.loop-r.invariant.from) c.part_end-part.ensures

-- part r's end lies after the release and within the limit
range : (c : After-part_end-part) → (c.args.job.release ≤ c.part_end-part.result.end) × (c.part_end-part.result.end ≤ 16777215)
range c = rw (answered c) (end_range c.requires.at_job c.loop-r.r c.loop-r-test.true)

pub loop-r-init : goal.loop-r-init
unfolding from_at sum listed
loop-r-init c = record { base = omega arith; from = refl; bounds = sym (over_none c.args.bounds.now) }

pub part_end-part-requires : goal.part_end-part-requires
part_end-part-requires c =
    let s = c.loop-r.invariant in
    rw (s.base, s.from) (at_part c.requires.at_job c.loop-r.r c.loop-r-test.true)

pub overflow_sub-response : goal.overflow_sub-response
overflow_sub-response c = (range (goal.at.overflow_sub-response c).After-part_end-part).0

pub overflow_cast-response : goal.overflow_cast-response
overflow_cast-response c = omega (arith, range (goal.at.overflow_cast-response c).After-part_end-part)

pub overflow_add-done : goal.overflow_add-done
overflow_add-done c = omega (arith, c.loop-r.invariant.base, sums_small (at_part c.requires.at_job c.loop-r.r c.loop-r-test.true))

pub loop-r-preserved : goal.loop-r-preserved
unfolding from_at
loop-r-preserved c =
    let s = c.loop-r.invariant in
    let ends = answered (goal.at.loop-r-preserved c).After-part_end-part in
    rw (add-one c.loop-r.r)
    record {
      base = omega (arith, s.base, sum-suc c.args.times.now c.loop-r.r);
      from = ap (λ e. e.next) ends;
      bounds = rw (c.max.ensures, ends, s.bounds, over-listed-at) (over-listed-set _ c.args.bounds.now c.loop-r.r (omega arith));
    }

pub returns : goal.returns
returns c =
    let s = c.loop-r.invariant in
    let all : c.loop-r.r ≡ length c.args.times.now = omega arith in
    rw (s.bounds, s.from, all)
    record {
      bounds = over-listed-all _ _ _ c.requires.bounds_len;
      done = s.base ∙ ap (base_at c.args.job c.args.times.now) all;
      at = refl;
    }
