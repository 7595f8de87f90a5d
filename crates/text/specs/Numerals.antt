-- Digits as read: those in front of some bytes, and the number that they make.
use Rattle.std.specs.Prelude.{ℕ, ◌+◌, ◌-◌, ◌*◌, Bool, ◌&&◌, List, [], ◌∷◌, ltb}
use Rattle.lists.specs.Lists.{pick}

-- a byte is a digit
unfoldable pub is_digit : ℕ → Bool
is_digit b = ltb 47 b && ltb b 58

-- the digits in front
unfoldable pub digits_in : List ℕ → List ℕ
digits_in [] = []
digits_in (b ∷ bs) = pick (is_digit b) (b ∷ digits_in bs) []

-- the number that digits make, behind one that is made
unfoldable pub numeral_from : ℕ → List ℕ → ℕ
numeral_from value [] = value
numeral_from value (d ∷ ds) = numeral_from (10 * value + (d - 48)) ds

-- the number that digits make
abbrev pub numeral : List ℕ → ℕ
numeral ds = numeral_from 0 ds
