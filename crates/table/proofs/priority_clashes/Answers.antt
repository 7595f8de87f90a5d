-- `table::priority_clashes` meets its contract. What slots, marks and `crossed` know of the rows before row i. Assumes nothing.
use Prim.Native.Nat.{ℕ, ◌+◌, ◌<◌}
use mathlib.Core.Path.{◌≡◌, refl, sym, ap, ◌∙◌}
use mathlib.Core.Bool.{Bool, true, false}
use mathlib.Core.List.{List}
use lib.ListN.{length, get_or, set}
use Rattle.std.specs.Prelude.{Option, Some, None}
use Rattle.std.specs.Bool.{then_some}
use Rattle.std.specs.Option.{option_or}
use Rattle.table.specs.declared.Marks.{Marks}
use Rattle.table.specs.declared.Row.{Row}
use Rattle.table.specs.Memory.{zero_row}
use Rattle.table.specs.Promises.{Placed, slot_of, crosses_marks, marks_with}
use Rattle.table.proofs.Clashes.{first_start, one_more, first_step}
use Rattle.table.proofs.Seen.{zero_marks, seen_start, seen_more}
use Rattle.table.proofs.priority_clashes.Invariants.{Passing}
use Rattle.table.proofs.priority_clashes.Goals as goal

-- the first of three, in any grouping
or_assoc : (a b c : Option ℕ) → option_or a (option_or b c) ≡ option_or (option_or a b) c
or_assoc None b c = refl
or_assoc (Some x) b c = refl

-- one row more
passing_more : {rows : List Row} {taken : List Bool} {marks : List Marks} {crossed : Option ℕ} {i : ℕ} → Passing rows taken marks crossed i
    → i < length rows → let row = get_or rows i zero_row in let kept = get_or marks row.core zero_marks in
    Placed row → get_or taken (slot_of row) false ≡ false
    → Passing rows (set taken (slot_of row) true) (set marks row.core (marks_with row kept))
    (option_or crossed (then_some (crosses_marks row kept) i)) (i + 1)
passing_more {rows} {taken} {marks} {crossed} {i} k h p e =
    record {
      seen = rw (one_more rows i h) (seen_more k.seen _ p);
      apart = k.apart ∙ first_step _ rows i h false (sym e ∙ k.seen.twice.said _ p);
      first = k.first ∙ ap (option_or crossed) (first_step _ rows i h _ (k.seen.crossing.said _ p)) ∙ or_assoc crossed _ _;
    }

pub loop-i-init : goal.loop-i-init
loop-i-init c = record { seen = seen_start; apart = first_start _ _; first = first_start _ _ }

pub returns-then-taken-slot : goal.returns-then-taken-slot
returns-then-taken-slot c =
    let l = c.loop-i.invariant in
    let slot = c.in-Some.ensures in
    let taken = rw slot.1 at c.if-taken-slot.true in
    record {
      twice = sym (l.apart ∙ first_step _ _ _ c.loop-i-test.true true (sym taken ∙ l.seen.twice.said _ slot.0));
      crossed = λ none. cc;
    }

pub loop-i-preserved : goal.loop-i-preserved
loop-i-preserved c =
    let slot = c.in-Some.ensures in
    let free = rw slot.1 at c.if-taken-slot.false in
    rw (c.with.ensures, slot.1, c.or-crossed.ensures, c.then_some.ensures, c.crossed_by.ensures)
    (passing_more c.loop-i.invariant c.loop-i-test.true slot.0 free)
