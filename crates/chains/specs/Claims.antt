-- What is claimed of a chain's answer, as statements.
use Rattle.std.specs.Prelude.{ℕ, ◌≡◌, List, take}
use Rattle.numbers.specs.Numbers.{Bytes}
use Rattle.chains.specs.Chains.{delay_answer}

-- a list is judged as its first 132 bytes are: the count is 1 byte and each of 32 steps 3 and 1, so no number that is wanted
-- begins past offset 128, and there may be a faulty number of four bytes
abbrev pub ListOfTheFront : Type 0
ListOfTheFront = (s list : List ℕ) → Bytes list → delay_answer s (take 132 list) ≡ delay_answer s list

-- a table is judged as its first 5,124 bytes are
abbrev pub TableOfTheFront : Type 0
TableOfTheFront = (s list : List ℕ) → Bytes s → delay_answer (take 5124 s) list ≡ delay_answer s list
