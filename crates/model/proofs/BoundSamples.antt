-- The samples hold. The short ones compute; at the limit a lemma begins the search where it ends.
use Prim.Native.Nat.{ℕ}
use mathlib.Core.Path.{◌≡◌, refl, ◌∙◌}
use native.Mathlib.Omega.{arith}
use lib.Dec.{lit<}
use Rattle.lists.specs.Lists.{keep, total, sum, largest}
use Rattle.std.specs.Prelude.{Some, None}
use Rattle.model.specs.Least.{least, scan, found, value, max_below}
use Rattle.model.specs.Task.{cost, part, parts_before, parts}
use Rattle.model.specs.Bounds.{limit, up, down, before, through, cooperative, preemptive, higher, lower, blocking}
use Rattle.model.specs.Bounds.{demand, window, jobs, preemptive_end, start, end_from, finish, response, bound, meets_deadline}
use Rattle.model.specs.Bounds.{above, highest, judged_by, core_verdict, passes, no_window}
use Rattle.model.specs.BoundSamples.{BoundSamples, b2, pair, most, one, d1, d2, full, printed_start, printed_end}
use Rattle.model.proofs.Demand.{window-from-cost, end_from-own}
use Rattle.model.proofs.Least.{least_is, least_never}
use Rattle.model.proofs.Rounding.{before_is, before_pos, up_one}

-- what computes on these samples: an answer that says `unfolding rows` opens the right side of the equations
rows : ℕ
unfolding sum cost part parts_before parts keep total largest limit cooperative preemptive higher lower blocking demand
rows = 0

-- with it the rounding and the search
sides : ℕ
unfolding rows up down before through least scan
sides = 0

-- the verdict
verdicts : ℕ
unfolding found above highest judged_by core_verdict
verdicts = 0

-- all of it
all : ℕ
unfolding sides verdicts window value jobs preemptive_end start end_from finish max_below response bound meets_deadline printed_start printed_end
all = 0

-- of the pair's lower row all seven jobs are looked at
bound_p : bound pair b2 0 ≡ 118
unfolding all
bound_p = refl

-- the row at the limit
window_c : window (one 16777215) (most 16777215) ≡ Some 16777215
unfolding sides
window_c = window-from-cost (one 16777215) (most 16777215) (lit< tt) (lit< tt) ∙ refl

-- its end
end_c : preemptive_end (one 16777215) (most 16777215) 0 0 ≡ Some 16777215
unfolding sides
end_c = end_from-own (one 16777215) (most 16777215) 0 0 (lit< tt) ∙ refl

-- its bound
bound_c : bound (one 16777215) (most 16777215) 0 ≡ 16777215
unfolding up cooperative before jobs value finish max_below response bound
bound_c = rw (window_c, end_c)

-- its verdict
good_c : core_verdict (one 16777215) ≡ passes
unfolding parts meets_deadline verdicts
good_c = rw (window_c, bound_c)

-- and over it
window_o : window (one 16777214) (most 16777214) ≡ None
unfolding sides
window_o = window-from-cost (one 16777214) (most 16777214) (lit< tt) (lit< tt) ∙ refl

-- its verdict
over_c : core_verdict (one 16777214) ≡ no_window (most 16777214)
unfolding verdicts
over_c = rw window_o

-- the upper of two rows that ask for more than every tick
window_d1 : window full d1 ≡ Some 1
unfolding sides window
window_d1 =
    least_is (demand full d1) 1 limit (Some 1)
    (record { above = omega arith; within = omega arith; solves = refl; first = λ z a b e. omega arith })

-- the lower of them
window_d2 : window full d2 ≡ None
unfolding rows window
window_d2 = least_never _ 1 limit (λ z a. omega (arith, before_is d1 z, up_one z, before_pos d2 (lit< tt) z a))

-- the verdict names the lower
full_d : core_verdict full ≡ no_window d2
unfolding verdicts
full_d = rw (window_d1, window_d2)

-- all samples hold
pub samples : BoundSamples
unfolding all
samples =
    record {
      blocked_a = (refl, refl, refl);
      windows_a = (refl, refl, refl);
      bounds_a1 = refl;
      bounds_a2 = (refl, refl);
      bounds_a3 = (refl, refl);
      part_a = (refl, refl);
      printed_a = (refl, refl);
      good_a = (refl, refl);
      late_a = refl;
      window_b = (refl, refl);
      first_b = (refl, refl, refl);
      last_b = (refl, refl, refl, refl);
      bound_b = bound_p;
      limit_good = good_c;
      limit_over = over_c;
      one_tick = (refl, window_d1);
      full_lower = full_d;
    }
