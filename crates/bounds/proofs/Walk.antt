-- One part of one job: its searches begin where they may, all fits, and what they find is the part's end.
use Prim.Native.Nat.{ℕ, suc, ◌+◌, ◌*◌, ◌≤◌, ◌<◌}
use mathlib.Core.Path.{◌≡◌, sym, ap, ◌∙◌}
use mathlib.Core.Bool.{Bool, false}
use mathlib.Core.List.{List}
use native.Mathlib.Omega.{arith}
use Rattle.lists.specs.Lists.{keep}
use Rattle.std.specs.Prelude.{Some, unwrap_or}
use Rattle.model.specs.Task.{cost, parts_before}
use Rattle.model.specs.Least.{IsLeast}
use Rattle.model.proofs.Ranges.{PreemptiveRange}
use Rattle.model.specs.Bounds.{limit, preemptive, higher, preemptive_end, finish}
use Rattle.model.proofs.Least.{least_at, least_same}
use Rattle.model.proofs.Climb.{under_shift, under-least, least_under}
use Rattle.model.proofs.Parts.{parts-suc, part-fits, part_pos}
use Rattle.model.proofs.Blocking.{no_blocking}
use Rattle.model.proofs.Demand.{work, work_mono}
use Rattle.model.proofs.Exists.{window-most, inside, preemptive_range, finish-preemptive}
use Rattle.bounds.specs.declared.PartEnd.{PartEnd}
use Rattle.bounds.specs.declared.Load.{Load}
use Rattle.bounds.specs.Loads.{work_at, side, searched, solution}
use Rattle.bounds.specs.Promises.{Warm, AtPart, end_of_part}
use Rattle.bounds.proofs.Sides.{work-loads}

-- a part's end, and where the next search may begin
pub record IsEnd {hs ps : List Load} {coop : Bool} {base from time : ℕ} (a : AtPart hs ps coop base from time) (p : PartEnd) : Type 0 where
  pub ends : finish a.seen.rows a.seen.t a.r a.j ≡ Some p.end
  pub warm : Warm a.seen.rows a.seen.t (base + time) p.next

module _ {highers preempts : List Load} {coop : Bool} {base from time : ℕ} (a : AtPart highers preempts coop base from time) where
  open a use {seen, j, r}
  open seen use {rows, t, L, core, row, windowed}

  -- the loads' work is that of the higher rows
  higher-work : (y : ℕ) → work_at highers y ≡ work (higher rows t) y
  higher-work y = ap (λ (l : List Load). work_at l y) seen.higher_is ∙ work-loads (higher rows t) y

  -- and of the preemptive rows
  pub preemptive-work : (y : ℕ) → work_at preempts y ≡ work (keep preemptive rows) y
  preemptive-work y = ap (λ (l : List Load). work_at l y) seen.preemptive_is ∙ work-loads (keep preemptive rows) y

  -- the part takes time
  pub time_pos : 0 < time
  time_pos = omega (arith, a.timed, part_pos t (core.good t row) r a.within)

  -- what is before the part and the part fit in the window, with the higher rows' work
  fits : base + time + work (higher rows t) L ≤ L
  fits =
      omega (arith, a.timed, a.done, part-fits t (core.good t row) r, inside rows core t row L windowed j a.inside)

  -- the window is at most the limit
  pub window_small : L ≤ 16777215
  window_small = window-most rows core t row L windowed

  -- so what the code adds is small
  pub sums_small : (base + time ≤ 16777215) × (from ≤ 16777215) × (0 < time)
  sums_small = (
    omega (arith, fits, window_small),
    omega (arith, a.warm.low L (omega arith) (omega (arith, fits)), window_small),
    time_pos,
  )

  -- the search may begin as much later as the base grows
  shifted : (c : ℕ) → Warm rows t (base + c) (from + c)
  shifted c = under_shift (work (higher rows t)) (work_mono (higher rows t)) base c from a.warm

  -- and there the right side lies no lower
  pub begins : (c : ℕ) → from + c ≤ side highers (base + c) (from + c)
  begins c = omega (arith, (shifted c).rises, higher-work (from + c))

  -- a least solution over the higher rows is what the search over the slice answers
  pub solved : (c y : ℕ) → IsLeast (λ z. base + c + work (higher rows t) z) 0 limit y → solution highers (base + c) (from + c) ≡ y
  unfolding limit searched
  solved c y l =
      ap (λ o. unwrap_or o 0)
      (least_same _ _ (from + c) limit (λ z h. ap (λ (n : ℕ). base + c + n) (higher-work z))
      ∙ under-least _ limit (from + c) y (shifted c) l)

  -- and the next search may begin there
  pub reached : (c y : ℕ) → IsLeast (λ z. base + c + work (higher rows t) z) 0 limit y → Warm rows t (base + c) y
  reached c y l = least_under _ 0 (λ x z h. omega (arith, work_mono (higher rows t) x z h)) (omega arith) limit y l

module _ {highers preempts : List Load} {base from time : ℕ} (a : AtPart highers preempts false base from time) where
  open a use {seen, j, r}
  open seen use {rows, t, L, core, row, windowed}

  -- its end exists
  range : PreemptiveRange rows t L r j
  range = preemptive_range rows core t row L windowed r j a.within a.inside (sym seen.kind)

  -- its equation is the search's
  sides : (z : ℕ) → work (higher rows t) z + j * cost t + parts_before t (suc r) ≡ base + time + work (higher rows t) z
  sides z = omega (arith, a.done, a.timed, parts-suc t r, no_blocking rows t (sym seen.kind))

  -- so it is the least solution that the search looks for
  the_end : IsLeast (λ z. base + time + work (higher rows t) z) 0 limit range.f
  unfolding preemptive_end
  the_end =
      let l = least_at _ 1 limit range.ends in
      record {
        above = omega arith;
        within = l.within;
        solves = l.solves ∙ sides range.f;
        first = λ z b c d. l.first z (omega (arith, time_pos a)) c (d ∙ sym (sides z));
      }

  -- and answers with
  pub preemptive-found : IsEnd a (end_of_part highers preempts false base from time)
  unfolding end_of_part
  preemptive-found =
      rw (solved a time range.f the_end)
      record { ends = finish-preemptive rows t r j (sym seen.kind) ∙ range.ends; warm = reached a time range.f the_end }
