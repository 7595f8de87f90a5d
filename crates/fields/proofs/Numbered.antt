-- The number that digits make, held digit by digit. Assumes nothing.
use Prim.Native.Nat.{ℕ, ◌+◌, ◌-◌, ◌*◌, ◌≤◌, ◌<◌, min}
use native.Mathlib.Numerals.{add-one}
use native.Mathlib.Omega.{arith}
use mathlib.Core.Path.{◌≡◌, refl}
use mathlib.Core.List.{List, [], ◌∷◌, ◌++◌}
use lib.ListN.{length, get_or, take}
use lib.Seq.{take-suc}
use Rattle.text.specs.Numerals.{digits_in, numeral_from, numeral}
use Rattle.text.proofs.Numerals.{digit_says, digits_at, numeral-append}
use Rattle.fields.specs.Promises.{held_numeral}

-- of digits, so is each
pub digit_least : (ds : List ℕ) (i : ℕ) → digits_in ds ≡ ds → i < length ds → 48 ≤ get_or ds i 0
digit_least ds i h k = (digit_says (get_or ds i 0) (digits_at ds h i k)).0

-- none makes 0
pub none_held : 0 ≡ held_numeral []
unfolding numeral_from
none_held = refl

-- one digit more
pub more_held : (ds : List ℕ) (i : ℕ) → i < length ds
    → held_numeral (take (i + 1) ds) ≡ min (10 * held_numeral (take i ds) + (get_or ds i 0 - 48)) 16777216
unfolding numeral_from
more_held ds i h =
    let d = get_or ds i 0 in
    let more : numeral (take i ds ++ (d ∷ [])) ≡ 10 * numeral (take i ds) + (d - 48) = numeral-append 0 (take i ds) (d ∷ []) in
    rw (add-one, take-suc ds i 0 h) (omega arith)

-- what the code needs
pub ruleset digit_by_digit = (digit_least, none_held, more_held)
