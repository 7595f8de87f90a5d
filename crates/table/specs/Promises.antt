-- Inner: what the passes over a table's rows keep of the rows so far, and what their functions promise each other.
use Rattle.std.specs.Prelude.{ℕ, ◌+◌, ◌-◌, ◌*◌, min, max, ◌<◌, ◌≡◌, Bool, List, length, eqb, ltb, Option, Some, None}
use Rattle.std.specs.Fn.{Shared, FnReturnsAtPair}
use Rattle.std.proofs.Common.{Bor}
use Rattle.lists.specs.Lists.{pick}
use Rattle.table.specs.declared.Row.{Row}
use Rattle.table.specs.declared.Verdict.{Verdict}
use Rattle.table.specs.Rules as R
use Rattle.table.specs.declared.Firsts.{Firsts}
use Rattle.table.specs.declared.Marks.{Marks}
use Rattle.table.specs.Clash.{breaks, clash}
use Rattle.table.specs.Faults.{row_fault}

-- ---- clashes

-- each call answers what f says of a row and an earlier one
abbrev pub Computes : {F : Type 0} → Shared F (Bor Row × (Bor Row × Unit {0})) Bool → F → (Row → Row → Bool) → Type 0
Computes g test f = (row earlier : Row) (r : Bool) → FnReturnsAtPair g test row earlier r → r ≡ f row earlier

-- the first row that clashes with an earlier one
abbrev pub first_of : (Row → Row → Bool) → List Row → Option ℕ
first_of f rows = pick (ltb (clash f rows) (length rows)) (Some (clash f rows)) None

-- the first row that has 5; and if none has, the first that has 6
pub record FirstsOf (rows : List Row) (r : Firsts) : Type 0 where
  pub twice : r.twice ≡ first_of (breaks R.SamePriority) rows
  pub crossed : r.twice ≡ None → r.crossed ≡ first_of (breaks R.KindsCrossed) rows

-- a row with a place among slots and marks
pub record Placed (r : Row) : Type 0 where
  pub core : r.core < 4
  pub kind : r.kind < 2
  pub priority : r.priority < 256

-- the slot of a row's core and priority, 256 a core
abbrev pub slot_of : Row → ℕ
slot_of r = r.core * 256 + r.priority

-- a row's slot, where it has a place
abbrev pub IsSlot : Row → Option ℕ → Type 0
IsSlot r None = Placed r → ⊥
IsSlot r (Some slot) = Placed r × (slot ≡ slot_of r)

-- by its core's marks: a preemptive row crosses kinds with a cooperative one above it, a cooperative row with a preemptive one below it
abbrev pub crosses_marks : Row → Marks → Bool
crosses_marks r m = pick (eqb r.kind 0) (ltb r.priority m.highest) (ltb m.lowest r.priority)

-- the marks with a row more
abbrev pub marks_with : Row → Marks → Marks
marks_with r m =
    pick (eqb r.kind 0) (record { lowest = min m.lowest r.priority; highest = m.highest })
    (record { lowest = m.lowest; highest = max m.highest r.priority })

-- ---- a row's faults

-- those of row i, whose times begin `rest`: what is left of the 1,024
abbrev pub row_fault_at : ℕ → Row → List ℕ → Verdict
row_fault_at i r rest = row_fault i (1024 - length rest) r rest
