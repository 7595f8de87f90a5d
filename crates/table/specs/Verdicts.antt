-- Document 01, "Codes and what they leave", and 02, §1 and §4: the code of each verdict and the number carried.
use Rattle.std.specs.Prelude.{ℕ, Bool, true, false, eqb, Result, Ok, Err}
use Rattle.lists.specs.Lists.{pick}
use Rattle.table.specs.declared.Verdict.{Verdict}
use Rattle.table.specs.declared.Verdict.TheVariants.{Good, EndsEarly, Malformed, OutOfRange, IdTwice, PriorityTwice}
use Rattle.table.specs.declared.Verdict.TheVariants.{KindsCrossed, TooManyTimes, Trailing, NoSuchCore, NoRoom, NoWindow, Missed}
use Rattle.table.specs.declared.Verdict.TheVariants.{UnknownStep, BadText}

abbrev pub code_of : Verdict → ℕ
code_of Good = 0
code_of (EndsEarly n) = 1
code_of (Malformed n) = 2
code_of (OutOfRange n) = 3
code_of (IdTwice n) = 4
code_of (PriorityTwice n) = 5
code_of (KindsCrossed n) = 6
code_of (TooManyTimes n) = 7
code_of (Trailing n) = 8
code_of (NoSuchCore n) = 9
code_of (NoRoom n) = 10
code_of (NoWindow n) = 11
code_of (Missed n) = 12
code_of (UnknownStep n) = 16
code_of (BadText n) = 17

abbrev pub number_of : Verdict → ℕ
number_of Good = 0
number_of (EndsEarly n) = n
number_of (Malformed n) = n
number_of (OutOfRange n) = n
number_of (IdTwice n) = n
number_of (PriorityTwice n) = n
number_of (KindsCrossed n) = n
number_of (TooManyTimes n) = n
number_of (Trailing n) = n
number_of (NoSuchCore n) = n
number_of (NoRoom n) = n
number_of (NoWindow n) = n
number_of (Missed n) = n
number_of (UnknownStep n) = n
number_of (BadText n) = n

-- the verdicts that reading a file gives
abbrev pub reading : Verdict → Bool
reading Good = true
reading (EndsEarly n) = true
reading (Malformed n) = true
reading (OutOfRange n) = true
reading (IdTwice n) = true
reading (PriorityTwice n) = true
reading (KindsCrossed n) = true
reading (TooManyTimes n) = true
reading (Trailing n) = true
reading (NoSuchCore n) = false
reading (NoRoom n) = false
reading (NoWindow n) = false
reading (Missed n) = false
reading (UnknownStep n) = false
reading (BadText n) = false

unfoldable pub good : Verdict → Bool
good v = eqb (code_of v) 0

-- a fault; where there is none, what comes after it
unfoldable pub ◌or_else◌ : Verdict → Verdict → Verdict
v or_else w = pick (good v) w v

infixr 20 ◌or_else◌
-- a check's answer: nothing where the verdict is good, else the refusal; and what it says
unfoldable pub judged : Verdict → Result Unit Verdict
judged v = pick (good v) (Ok tt) (Err v)

abbrev pub said : Result Unit Verdict → Verdict
said (Ok _) = Good
said (Err v) = v
