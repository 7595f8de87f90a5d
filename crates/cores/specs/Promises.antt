-- Inner: what the functions on what is asked of rows promise, in those numbers.
use Rattle.std.specs.Prelude.{ℕ, ◌-◌, ◌≤◌, ◌≡◌, Bool, List, ◌∷◌, map, get_or, eqb, ltb}
use Rattle.std.specs.Fn.{Shared, FnReturnsAt}
use Rattle.std.proofs.Common.{Bor}
use Rattle.lists.specs.Lists.{pick, keep, largest, total}
use Rattle.model.specs.Task.{parts}
use Rattle.model.specs.Rows.{GoodCore}
use Rattle.bounds.specs.declared.Load.{Load}
use Rattle.cores.specs.declared.Asked.{Asked}
use Rattle.cores.specs.declared.Core.{Core}
use Rattle.cores.specs.Cores.{asked_nothing, core_of, tasks_in}

-- each call answers what p says of a row
abbrev pub Computes : {F : Type 0} → Shared F (Bor Asked × Unit {0}) Bool → F → (Asked → Bool) → Type 0
Computes g test p = (a : Asked) (r : Bool) → FnReturnsAt g test a r → r ≡ p a

-- the periods and costs of the rows wanted, in order
abbrev pub wanted_loads : (Asked → Bool) → List Asked → List Load
wanted_loads p rows = map (λ a. a.load) (keep p rows)

-- what is asked of row i
abbrev pub asked_at : List Asked → ℕ → Asked
asked_at rows i = get_or rows i asked_nothing

-- those of row i first, those of the higher rows behind
abbrev pub own_first : List Asked → ℕ → List Load
own_first rows i = (asked_at rows i).load ∷ wanted_loads (λ a. ltb (asked_at rows i).priority a.priority) rows

-- those of the preemptive rows
abbrev pub preemptive_loads : List Asked → List Load
preemptive_loads rows = wanted_loads (λ a. eqb a.kind 0) rows

-- the longest part among the rows below a priority
abbrev pub longest_below : ℕ → List Asked → ℕ
longest_below priority rows = largest (map (λ a. a.longest) (keep (λ a. ltb a.priority priority) rows))

-- the blocking of row i: for a cooperative row the longest part below it less one tick, where 0 - 1 is 0; else 0
abbrev pub blocking_in : List Asked → ℕ → ℕ
blocking_in rows i = pick (eqb (asked_at rows i).kind 1) (longest_below (asked_at rows i).priority rows - 1) 0

-- a core of a good table as one value
pub record IsCore (c : Core) : Type 0 where
  pub good : GoodCore (tasks_in c)
  pub fits : total parts (tasks_in c) ≤ 1024
  pub is : c ≡ core_of (tasks_in c)
