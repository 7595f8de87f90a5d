-- A cooperative part: what its two searches answer is the start and the end, and all fits.
use Prim.Native.Nat.{ℕ, suc, ◌+◌, ◌-◌, ◌*◌, ◌≤◌, ◌<◌}
use mathlib.Core.Path.{◌≡◌, sym, ap, subst, ◌∙◌}
use mathlib.Core.Bool.{true}
use mathlib.Core.List.{List}
use native.Mathlib.Nat.{add-mul}
use native.Mathlib.Omega.{arith}
use lib.Dec.{ltb}
use borrow.Author.Tests.{lt-ltb}
use Rattle.lists.specs.Lists.{keep, total}
use Rattle.lists.proofs.Keep.{kept}
use Rattle.lists.proofs.Totals.{total-add, total_same, total_wider}
use Rattle.std.specs.Prelude.{Some, unwrap_or}
use Rattle.model.specs.Task.{Task, cost, part, parts_before}
use Rattle.model.specs.Least.{least, IsLeast}
use Rattle.model.proofs.Ranges.{CooperativeRange}
use Rattle.model.specs.Bounds.{limit, preemptive, before, through, higher, blocking, start, end_from}
use Rattle.model.proofs.Least.{least_at, least_same}
use Rattle.model.proofs.Climb.{under_shift}
use Rattle.model.proofs.Rounding.{before-suc, through_before}
use Rattle.model.proofs.Rows.{period_pos, preemptive-higher}
use Rattle.model.proofs.Demand.{work, work_through, work_mono, work-suc}
use Rattle.model.proofs.Exists.{higher_periods, cooperative_range, finish-cooperative}
use Rattle.bounds.specs.declared.Load.{Load}
use Rattle.bounds.specs.Loads.{work_at, side, searched, solution}
use Rattle.bounds.specs.Promises.{Warm, AtPart, end_from_start, end_of_part}
use Rattle.bounds.proofs.Walk.{IsEnd, preemptive-work, time_pos, window_small, solved, reached}

-- what the code works out from the tick after the start is in range, and the search for the end begins where it may
pub record StartRange (preempts : List Load) (time after : ℕ) : Type 0 where
  pub some : 1 ≤ after
  pub small : after ≤ 16777215
  pub behind : work_at preempts after ≤ after - 1
  pub early : after - 1 + time ≤ 16777215
  pub begins : after - 1 + time ≤ side preempts (after - 1 + time - work_at preempts after) (after - 1 + time)

module _ {highers preempts : List Load} {base from time : ℕ} (a : AtPart highers preempts true base from time) where
  open a use {seen, j, r}
  open seen use {rows, t, L, core, row, windowed}

  -- its start and its end exist
  range : CooperativeRange rows t L r j
  range = cooperative_range rows core t row L windowed r j a.within a.inside (sym seen.kind)

  open range use {s, f}

  -- the tick before the one after it
  one : suc s - 1 ≡ s
  one = omega arith

  -- the work through a tick is the work before the next
  next-work : (x : ℕ) → work_through (higher rows t) x ≡ work (higher rows t) (suc x)
  next-work x = work-suc (higher rows t) (higher_periods rows core t row L windowed) x

  -- the start's equation, for the number after it
  sides : (x : ℕ) → suc (blocking rows t + work_through (higher rows t) x + j * cost t + parts_before t r)
      ≡ base + 1 + work (higher rows t) (suc x)
  sides x = omega (arith, next-work x, a.done)

  -- the tick after the start is the least solution that the search looks for
  the_start : IsLeast (λ z. base + 1 + work (higher rows t) z) 0 limit (suc s)
  unfolding start limit
  the_start =
      let l = least_at _ 0 16777215 range.starts in
      record {
        above = omega arith;
        within = omega (arith, range.before, window_small a);
        solves = omega (arith, l.solves, sides s);
        first =
            λ z b c d.
            (let back : suc (z - 1) ≡ z = omega arith in
            let same : work (higher rows t) (suc (z - 1)) ≡ work (higher rows t) z = ap (work (higher rows t)) back in
            l.first (z - 1) (omega arith) (omega arith) (omega (arith, sides (z - 1))));
      }

  -- so the search answers with it
  started : solution highers (base + 1) (from + 1) ≡ suc s
  started = solved a 1 (suc s) the_start

  -- the preemptive rows' work through the start lies before it
  behind-start : work_at preempts (suc s) ≤ s
  unfolding start higher
  behind-start =
      omega (
        arith,
        preemptive-work a (suc s),
        total_wider preemptive (λ u. ltb t.priority u.priority) (λ u. before u (suc s) * cost u) rows
            (λ u m p. lt-ltb _ _ (preemptive-higher rows core t row (sym seen.kind) u m p)),
        (least_at _ 0 limit range.starts).solves,
        next-work s,
      )

  -- the preemptive rows' work before a later tick is what came through the start and what came in after it
  split : (z : ℕ) → s < z
      → total (λ u. (before u z - through u s) * cost u) (keep preemptive rows) + work_at preempts (suc s) ≡ work_at preempts z
  split z h =
      ap (◌+◌ _) (preemptive-work a (suc s))
      ∙ sym (total-add _ _ (keep preemptive rows))
      ∙ total_same _ _ (keep preemptive rows)
      (λ u m. each u (period_pos rows core u (kept preemptive rows u m).0))
      ∙ sym (preemptive-work a z)
    where
      each : (u : Task) → 0 < u.period
          → (before u z - through u s) * cost u + before u (suc s) * cost u ≡ before u z * cost u
      each u p =
          sym (add-mul (before u z - through u s) (before u (suc s)) (cost u))
          ∙ ap (λ (n : ℕ). n * cost u) (omega (arith, before-suc u p s, through_before u p s z h))

  -- what the code works out from the start
  pub start_range : (after : ℕ) → after ≡ solution highers (base + 1) (from + 1) → StartRange preempts time after
  start_range after is =
      rw (is ∙ started)
      record {
        some = omega arith;
        small = omega (arith, range.before, window_small a);
        behind = omega (arith, behind-start);
        early = omega (arith, range.takes, range.within, window_small a, a.timed);
        begins = rw one (omega (arith, split (s + time) (omega (arith, time_pos a)), behind-start));
      }

  -- the second search answers with the end
  ended : end_of_part highers preempts true base from time ≡ record { end = f; next = s + time }
  unfolding end_of_part end_from_start end_from searched limit
  ended = rw (started, one) (ap (λ o. record { end = unwrap_or o 0; next = s + time }) found)
    where
      -- the two right sides are the same
      ends : (z : ℕ) → s + part t r ≤ z
          → side preempts (s + time - work_at preempts (suc s)) z
          ≡ s + part t r + total (λ u. (before u z - through u s) * cost u) (keep preemptive rows)
      ends z h = omega (arith, a.timed, behind-start, split z (omega (arith, a.timed, time_pos a)))

      found : least (side preempts (s + time - work_at preempts (suc s))) (s + time) limit ≡ Some f
      found =
          ap (λ (n : ℕ). least (side preempts (s + time - work_at preempts (suc s))) (s + n) limit) a.timed
          ∙ least_same _ _ (s + part t r) limit ends ∙ range.ends

  -- a cooperative part: the searches answer with its end
  pub cooperative-found : IsEnd a (end_of_part highers preempts true base from time)
  cooperative-found =
      rw ended
      record {
        ends = finish-cooperative rows t r j (sym seen.kind) ∙ ap (end_from rows t r j) range.starts ∙ range.ends;
        warm =
            subst (λ (b : ℕ). Warm rows t b (s + time)) (omega (arith, time_pos a))
            (subst (Warm rows t (base + 1 + (time - 1))) (omega (arith, time_pos a)) later);
      }
    where
      -- what the start reached, with the rest of the part
      later : Warm rows t (base + 1 + (time - 1)) (suc s + (time - 1))
      later =
          under_shift (work (higher rows t)) (work_mono (higher rows t)) (base + 1) (time - 1) (suc s)
          (reached a 1 (suc s) the_start)
