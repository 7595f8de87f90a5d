-- What was read in either way is what it may be. Assumes nothing.
use Prim.Native.Nat.{ℕ}
use mathlib.Core.Path.{◌≡◌}
use mathlib.Core.Bool.{Bool, false}
use mathlib.Core.List.{List, []}
use Rattle.table.specs.Verdicts.{◌or_else◌}
use Rattle.table.specs.declared.Wanted.{Wanted}
use Rattle.table.specs.Fields.{judge}
use Rattle.table.proofs.Codes.{first_good}
use Rattle.table.proofs.Fine.{Fine, good_fine}
use Rattle.fields.specs.Ways.{Way}
use Rattle.fields.specs.Ways.{Seven, Commas}
use Rattle.fields.specs.Stepping.{go}
use Rattle.fields.specs.TextFields.{value_at, ending_at, misfit, text_field}
use Rattle.fields.specs.Ways.{number_by}
use Rattle.fields.proofs.Taken.{Reader, passed, then_read, field-read}

-- a field of text
pub text_fine : (last : Bool) (s : List ℕ) (w : Wanted) (at v n : ℕ) → text_field last s w at ≡ go v n → Fine w v
unfolding text_field
text_fine last s w at v n e =
    let a = then_read (value_at s at) _ v n e in
    let b = then_read (ending_at s a.place) _ v n a.rest in
    let p = passed (judge w at a.what or_else misfit last b.what a.place) a.what b.place v n b.rest in
    rw (← p.same) (good_fine w at a.what (first_good (judge w at a.what) _ p.fine))

-- a number in its way; of its bytes nothing is said
pub in_way : (way : Way) (s : List ℕ) → Reader s ⊥ (λ v. []) (number_by way s)
in_way Seven s = record { fine = λ w at v n e. (field-read s w at v n e).fine; bytes = λ never. absurd never }
in_way Commas s = record { fine = text_fine false s; bytes = λ never. absurd never }
