-- `text::Page::put_numbers` meets its contract: each number but the last and a byte, then the last and its own. Assumes nothing.
use Prim.Native.Nat.{ℕ, suc, ◌+◌, ◌≤◌, ◌<◌}
use native.Mathlib.Numerals.{add-one}
use native.Mathlib.Omega.{arith}
use borrow.Author.Rules.{rules}
use mathlib.Core.Path.{◌≡◌, refl}
use mathlib.Core.List.{List, [], ◌∷◌, ◌++◌}
use lib.ListN.{length, get_or, drop, length-append, drop_of_length-le}
use lib.Seq.{drop-cons}
use Rattle.std.proofs.lemmas.Grind.{common_steps}
use Rattle.text.specs.Text.{decimal, joined}
use Rattle.text.specs.Promises.{Fits}
use Rattle.text.proofs.Fitting.{fits_as, rest_room, room, turn, last}
use Rattle.text.proofs.Page.put_numbers.Invariants.{joint}
use Rattle.text.proofs.Page.put_numbers.Goals as goal

-- a number and its byte, and then the others
first : (between end z n : ℕ) (ns : List ℕ)
    → joint between end ((n ∷ ns) ++ (z ∷ [])) ≡ (decimal n ++ (between ∷ [])) ++ joint between end (ns ++ (z ∷ []))
unfolding joined
first between end z n [] = refl
first between end z n (m ∷ ns) = refl

module _ (between end z : ℕ) (front : List ℕ) (i : ℕ) where
  -- number i is not the last
  more : i < length front
      → joint between end (drop i front ++ (z ∷ []))
      ≡ (decimal (get_or front i 0) ++ (between ∷ [])) ++ joint between end (drop (i + 1) front ++ (z ∷ []))
  more h = rw (add-one, drop-cons front i 0) (first between end z (get_or front i 0) (drop (suc i) front))

  -- only the last is left
  ending : length front ≤ i → joint between end (drop i front ++ (z ∷ [])) ≡ decimal z ++ (end ∷ [])
  unfolding joined
  ending h = rw (drop_of_length-le front h)

-- whatever byte is behind a number, it has the same room
any_end : (d : List ℕ) (a b : ℕ) {written : List ℕ} {n : ℕ} → Fits (d ++ (a ∷ [])) written n → Fits (d ++ (b ∷ [])) written n
any_end d a b f = record { room = omega (arith, f.room, length-append {A = ℕ}) }

pub loop-number-init : goal.loop-number-init
loop-number-init g c = record { same = grind (arith, common_steps) }

pub put_decimal-requires : goal.put_decimal-requires
put_decimal-requires g c =
    (search rules, room c.loop-number.invariant _ _ (more _ _ _ _ _ c.loop-number-test.true) c.requires.room)

pub loop-number-preserved : goal.loop-number-preserved
loop-number-preserved g c = turn c.loop-number.invariant _ _ (more _ _ _ _ _ c.loop-number-test.true) c.put_decimal.ensures

pub put_decimal-requires-2 : goal.put_decimal-requires-2
put_decimal-requires-2 g c =
    let left = rest_room c.loop-number.invariant c.requires.room in
    (search rules, any_end _ c.args.end _ (fits_as (ending _ _ _ _ _ c.loop-number-test.false) left))

pub returns : goal.returns
returns g c = last c.loop-number.invariant (rw (ending _ _ _ _ _ c.loop-number-test.false) c.put_decimal-2.ensures)
