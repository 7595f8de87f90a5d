-- Document 01, "Codes and what they leave", its table line by line, and 02: the code of each verdict and the number that it carries.
use Rattle.std.specs.Prelude.{ℕ, ◌≡◌}
use Rattle.table.specs.declared.Verdict.{Verdict}
use Rattle.table.specs.declared.Verdict.TheVariants as C
use Rattle.table.specs.Verdicts.{code_of, number_of}

-- a verdict has this code, and carries this number
abbrev pub Carries : Verdict → ℕ → ℕ → Type 0
Carries v code n = (code_of v ≡ code) × (number_of v ≡ n)

-- the table; when each verdict is given, and what n then is, the rules say
pub record CodeTable : Type 0 where
  -- good: 0
  pub code0 : Carries C.Good 0 0
  -- the input ends before a wanted number is complete: file length
  pub code1 : (n : ℕ) → Carries (C.EndsEarly n) 1 n
  -- a number is longer than four bytes, or its last byte is zero and not its only one: offset of its first byte
  pub code2 : (n : ℕ) → Carries (C.Malformed n) 2 n
  -- a field is out of its range: offset of its first byte
  pub code3 : (n : ℕ) → Carries (C.OutOfRange n) 3 n
  -- id used before: row, from 0
  pub code4 : (n : ℕ) → Carries (C.IdTwice n) 4 n
  -- priority used before on the same core: row
  pub code5 : (n : ℕ) → Carries (C.PriorityTwice n) 5 n
  -- a cooperative and a preemptive row on one core, the cooperative one higher: row
  pub code6 : (n : ℕ) → Carries (C.KindsCrossed n) 6 n
  -- a part count takes the total above 1,024: offset of that count
  pub code7 : (n : ℕ) → Carries (C.TooManyTimes n) 7 n
  -- bytes after the last row: offset of the first
  pub code8 : (n : ℕ) → Carries (C.Trailing n) 8 n
  -- core asked for above 3: that core
  pub code9 : (n : ℕ) → Carries (C.NoSuchCore n) 9 n
  -- room too short: elements needed
  pub code10 : (n : ℕ) → Carries (C.NoRoom n) 10 n
  -- a window has no length up to the limit: task id
  pub code11 : (n : ℕ) → Carries (C.NoWindow n) 11 n
  -- a deadline is missed: task id
  pub code12 : (n : ℕ) → Carries (C.Missed n) 12 n
  -- 02, §4: an unknown task or part: step, from 0
  pub code16 : (n : ℕ) → Carries (C.UnknownStep n) 16 n
  -- 02, §1: a fault of text: offset of the first byte that cannot go on, or the text's length
  pub code17 : (n : ℕ) → Carries (C.BadText n) 17 n
