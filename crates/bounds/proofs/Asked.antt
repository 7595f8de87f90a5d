-- The window that is searched over a row and the higher rows is the row's window.
use Prim.Native.Nat.{ℕ, ◌≤◌, ◌<◌, ◌^◌}
use mathlib.Core.Path.{◌≡◌, sym, ap, fun_ext, ◌∙◌}
use mathlib.Core.List.{List, ◌∷◌}
use native.Mathlib.Omega.{arith}
use lib.ListN.{length}
use Rattle.lists.specs.Lists.{◌∈◌, total}
use Rattle.model.specs.Task.{Task, cost}
use Rattle.model.specs.Rows.{GoodCore}
use Rattle.model.specs.Least.{least, rounds}
use Rattle.model.specs.Bounds.{limit, higher, blocking, demand}
use Rattle.model.proofs.Rows.{period_pos}
use Rattle.model.proofs.Parts.{cost_pos}
use Rattle.model.proofs.Blocking.{blocking-most}
use Rattle.model.proofs.Demand.{demand_is, window-from-cost}
use Rattle.bounds.specs.declared.Load.{Load}
use Rattle.bounds.specs.Loads.{loads, Summable, first_cost, side, searched, window_answer}
use Rattle.bounds.proofs.Sides.{work-loads, summable_own}

module _ (rows : List Task) (core : GoodCore rows) (t : Task) (m : t ∈ rows) where
  -- the blocking is in range
  pub blocking_small : blocking rows t ≤ 16777214
  blocking_small = blocking-most rows t 16777214 (λ u n h r q. ((core.good u n).time r q).most)

  -- the search's right side is the window's
  side-demand : (x : ℕ) → side (loads (t ∷ higher rows t)) (blocking rows t) x ≡ demand rows t x
  unfolding total
  side-demand x = omega (arith, demand_is rows t x, work-loads (t ∷ higher rows t) x)

  -- begun at the row's C it answers with the window
  pub window_is : searched (loads (t ∷ higher rows t)) (blocking rows t) (cost t) ≡ window_answer rows t
  unfolding searched window_answer limit
  window_is =
      let from-cost = window-from-cost rows t (period_pos rows core t m) (cost_pos t (core.good t m)) in
      ap (λ (g : ℕ → ℕ). record { found = least g (cost t) 16777215; rounds = rounds g 16777215 16777216 (cost t) })
      (fun_ext side-demand)
      ∙ ap (λ f. record { found = f; rounds = rounds (demand rows t) 16777215 16777216 (cost t) }) (sym from-cost)

  module _ (own_first : List Load) (blocked : ℕ) (loaded : own_first ≡ loads (t ∷ higher rows t)) (blocks : blocked ≡ blocking rows t)
    where
      -- what `window` asks for
      pub window-asked : Summable own_first × ((0 < length own_first) × (blocked ≤ 2 ^ 62))
      window-asked = rw (loaded, blocks) (summable_own rows core t m, (omega arith, omega (arith, blocking_small)))

      -- and what it answers
      pub window-answered : searched own_first blocked (first_cost own_first) ≡ window_answer rows t
      window-answered = rw (loaded, blocks) window_is
