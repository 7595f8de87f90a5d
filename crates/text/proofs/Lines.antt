-- Numbers put one by one. Assumes nothing.
use Prim.Native.Nat.{ℕ, suc, ◌+◌, ◌≤◌, ◌<◌}
use native.Mathlib.Numerals.{add-one}
use native.Mathlib.Omega.{arith}
use mathlib.Core.Path.{◌≡◌}
use mathlib.Core.List.{List, [], ◌∷◌, ◌++◌, map}
use lib.ListN.{length, get_or, drop, drop_of_length-le}
use lib.Seq.{drop-cons}
use Rattle.text.specs.Text.{decimal, joined}

module _ (between : ℕ) (end ns : List ℕ) (i : ℕ) where
  -- numbers from number i on: that number and a byte, then the others
  pub numbers_more : suc i < length ns
      → joined between end (map decimal (drop i ns))
      ≡ (decimal (get_or ns i 0) ++ (between ∷ [])) ++ joined between end (map decimal (drop (i + 1) ns))
  unfolding joined
  numbers_more h =
      let here : i < length ns = omega arith in
      rw (add-one, drop-cons ns i 0 here, drop-cons ns (suc i) 0 h)

  -- the last number
  pub numbers-last : suc i ≡ length ns → joined between end (map decimal (drop i ns)) ≡ decimal (get_or ns i 0) ++ end
  unfolding joined
  numbers-last e =
      let here : i < length ns = omega arith in
      let past : length ns ≤ suc i = omega arith in
      rw (drop-cons ns i 0 here, drop_of_length-le ns past)
