-- `text::put_numbers` meets its contract: each number but the last and a byte, then the last and its own. Assumes nothing.
use Prim.Native.Nat.{ℕ, ◌+◌, ◌≤◌, ◌<◌}
use native.Mathlib.Omega.{arith}
use mathlib.Core.Path.{◌≡◌, sym, ap, ◌∙◌}
use mathlib.Core.List.{List, [], ◌∷◌, ◌++◌, map}
use lib.ListN.{length, get_or, drop, length-append, get_or-append}
use lib.Seq.{get_or-append_seam}
use Rattle.std.proofs.lemmas.Grind.{common_steps}
use Rattle.text.specs.Text.{decimal, joined}
use Rattle.text.specs.Promises.{FitsAt}
use Rattle.text.proofs.Puts.{put_as, room, turn, last}
use Rattle.text.proofs.Lines.{numbers_more, numbers-last}
use Rattle.text.proofs.put_numbers.Goals.{After-unwrap}
use Rattle.text.proofs.put_numbers.Goals as goal

-- the numbers are those in front and the last
parts : (c : After-unwrap) → c.args.numbers.now ≡ c.unwrap.result.1.now ++ (c.unwrap.result.0.now ∷ [])
parts c = grind (arith, common_steps)

-- one number is behind those in front
many : (front : List ℕ) (z : ℕ) {ns : List ℕ} → ns ≡ front ++ (z ∷ []) → length ns ≡ length front + 1
many front z e = ap length e ∙ length-append front (z ∷ [])

module _ (between end z : ℕ) (front : List ℕ) (i : ℕ) {ns : List ℕ} (e : ns ≡ front ++ (z ∷ [])) where
  -- number i is not the last
  more : i < length front
      → joined between (end ∷ []) (map decimal (drop i ns))
      ≡ (decimal (get_or front i 0) ++ (between ∷ [])) ++ joined between (end ∷ []) (map decimal (drop (i + 1) ns))
  more h =
      let same : get_or ns i 0 ≡ get_or front i 0 = rw e (get_or-append front (z ∷ []) 0 i h) in
      rw same at (numbers_more between (end ∷ []) ns i (omega (arith, many front z e)))

  -- only the last is left
  ending : i ≤ length front → length front ≤ i → joined between (end ∷ []) (map decimal (drop i ns)) ≡ decimal z ++ (end ∷ [])
  ending upto past =
      let here : length front ≡ i = omega arith in
      let same : get_or ns i 0 ≡ z = rw (e, sym here) (get_or-append_seam front z [] 0) in
      rw same at (numbers-last between (end ∷ []) ns i (omega (arith, many front z e)))

-- whatever byte is behind a number, it has the same room
any_end : (d : List ℕ) (a b : ℕ) {p : ℕ} {out : List ℕ} → FitsAt (d ++ (a ∷ [])) p out → FitsAt (d ++ (b ∷ [])) p out
any_end d a b f = record { room = omega (arith, f.room, length-append {A = ℕ}) }

pub put_decimal-p-requires : goal.put_decimal-p-requires
put_decimal-p-requires c =
    let e = parts (goal.at.put_decimal-p-requires c).After-unwrap in
    room c.loop-number.invariant _ _ (more _ _ _ _ _ e c.loop-number-test.true)

pub loop-number-preserved : goal.loop-number-preserved
loop-number-preserved c =
    let e = parts (goal.at.loop-number-preserved c).After-unwrap in
    turn c.loop-number.invariant _ _ (more _ _ _ _ _ e c.loop-number-test.true) c.put_decimal-p.ensures

pub put_decimal-requires : goal.put_decimal-requires
put_decimal-requires c =
    let e = parts (goal.at.put_decimal-requires c).After-unwrap in
    let left = ending c.args.between c.args.end c.unwrap.result.0.now _ _ e c.loop-number.auto.number-index-end c.loop-number-test.false in
    any_end _ c.args.end _ (rw left at c.loop-number.invariant.fits)

pub returns : goal.returns
returns c =
    let e = parts (goal.at.returns c).After-unwrap in
    let left = ending c.args.between c.args.end c.unwrap.result.0.now _ _ e c.loop-number.auto.number-index-end c.loop-number-test.false in
    last c.loop-number.invariant (put_as left c.put_decimal.ensures)
