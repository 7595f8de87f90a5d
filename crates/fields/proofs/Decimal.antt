-- The decimal number at a place, by the digits there. Assumes nothing.
use Prim.Native.Nat.{ℕ, ◌+◌, ◌≤◌, ◌<◌}
use native.Mathlib.Omega.{arith}
use borrow.Author.Tests.{eq-eqb, ne_eqb}
use mathlib.Core.Path.{◌≡◌, refl, ap}
use mathlib.Core.List.{List, [], ◌∷◌}
use lib.ListN.{length, get_or, drop, length-append, length-drop}
use Rattle.text.specs.Numerals.{digits_in, numeral}
use Rattle.text.proofs.Numerals.{digits_front, digits_all}
use Rattle.table.specs.declared.Verdict.TheVariants.{BadText}
use Rattle.fields.specs.Stepping.{stop, go}
use Rattle.fields.specs.TextFields.{shortest, decimal_at}

-- by how many digits there are, and the first of them
module _ (at : ℕ) where
  -- none
  shortest-none : (ds : List ℕ) → length ds ≡ 0 → shortest ds at ≡ stop (BadText at)
  unfolding shortest
  shortest-none [] e = refl
  shortest-none (d ∷ ds) e = absurd (omega arith)

  -- several, the first a zero
  shortest-zero : (ds : List ℕ) → 1 < length ds → get_or ds 0 0 ≡ 48 → shortest ds at ≡ stop (BadText (at + 1))
  unfolding shortest
  shortest-zero [] h e = absurd (omega arith)
  shortest-zero (d ∷ []) h e = absurd (omega arith)
  shortest-zero (d ∷ b ∷ ds) h e = rw (eq-eqb d 48 e)

  -- a number
  shortest_number : (ds : List ℕ) → (length ds ≡ 0 → ⊥) → (1 < length ds → get_or ds 0 0 ≡ 48 → ⊥)
      → shortest ds at ≡ go (numeral ds) (at + length ds)
  unfolding shortest
  shortest_number [] some h = absurd (some refl)
  shortest_number (d ∷ []) some h = refl
  shortest_number (d ∷ b ∷ ds) some h = rw (ne_eqb d 48 (h (omega arith)))

module _ (s : List ℕ) (at : ℕ) where
  -- the digits there
  abbrev ds : List ℕ
  ds = digits_in (drop at s)

  -- no digit
  pub no_digits : length ds ≡ 0 → decimal_at s at ≡ stop (BadText at)
  unfolding decimal_at
  no_digits e = shortest-none at ds e

  -- digits behind a zero
  pub zero_first : get_or ds 0 0 ≡ 48 → 1 < length ds → decimal_at s at ≡ stop (BadText (at + 1))
  unfolding decimal_at
  zero_first e h = shortest-zero at ds h e

  -- a number
  pub number_there : (length ds ≡ 0 → ⊥) → (1 < length ds → get_or ds 0 0 ≡ 48 → ⊥) → decimal_at s at ≡ go (numeral ds) (at + length ds)
  unfolding decimal_at
  number_there some h = shortest_number at ds some h

  -- the digits end within the text
  pub digits_end : 1 ≤ length ds → at + length ds ≤ length s
  digits_end some =
      let there = length-append ds (drop (length ds) (drop at s)) in
      omega (arith, length-drop at s, ap length (digits_front (drop at s)), there)

-- what the code needs
pub ruleset by_digits = (digits_all, no_digits, zero_first, number_there, digits_end)
