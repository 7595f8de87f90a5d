-- Document 01, "Codes and what they leave": what writing bytes into lent room answers and leaves, whatever they are.
-- `fault` is what stands against writing, `new` the bytes to write, `out` the room as it was.
use Rattle.std.specs.Prelude.{ℕ, ◌≡◌, List, length, ltb, Result, Ok, Err}
use Rattle.lists.specs.Lists.{pick, over}
use Rattle.table.specs.declared.Verdict.{Verdict}
use Rattle.table.specs.declared.Verdict.TheVariants.{Good, NoRoom}
use Rattle.table.specs.declared.Written.{Written}
use Rattle.table.specs.Verdicts.{good, ◌or_else◌}

-- what stands against it, then 10 with the bytes needed
unfoldable pub verdict_on : Verdict → List ℕ → ℕ → Verdict
verdict_on fault new room = fault or_else pick (ltb room (length new)) (NoRoom (length new)) Good

-- a refusal writes nothing
abbrev pub none_written : Verdict → Written
none_written v = record { verdict = v; count = 0 }

-- what is answered for so many bytes written, or for a refusal
abbrev pub written_by : Result ℕ Verdict → Written
written_by (Ok n) = record { verdict = Good; count = n }
written_by (Err v) = none_written v

-- the answer also says how many bytes were written, 0 when refused
unfoldable pub answer_on : Verdict → List ℕ → ℕ → Written
answer_on fault new room =
    record { verdict = verdict_on fault new room; count = pick (good (verdict_on fault new room)) (length new) 0 }

-- refused writing changes no byte; bytes past the written ones stay
unfoldable pub bytes_left : Verdict → List ℕ → List ℕ → List ℕ
bytes_left fault new out = pick (good (verdict_on fault new (length out))) (over new out) out

-- what writing gives: the answer and every byte
pub record Writes (fault : Verdict) (new out : List ℕ) (r : Written) (out' : List ℕ) : Type 0 where
  pub answer : r ≡ answer_on fault new (length out)
  pub bytes : out' ≡ bytes_left fault new out
