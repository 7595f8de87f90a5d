-- What printing a file's sheet into lent bytes answers and leaves, in words: in too short a room, and in enough.
use Rattle.std.specs.Prelude.{ℕ, ◌≤◌, ◌<◌, ◌≡◌, List, length}
use Rattle.lists.specs.Lists.{over}
use Rattle.table.specs.declared.Written.{Written}
use Rattle.sheet.specs.Sheet.{sheet_text, Prints}
use Rattle.demands.specs.Codes.{Carries}

-- too short: code 10 with the length of the text, no byte written, none changed
abbrev pub TooShort : List ℕ → List ℕ → Written → List ℕ → Type 0
TooShort text out r out' = Carries r.verdict 10 (length text) × (r.count ≡ 0) × (out' ≡ out)

-- enough: the text stands in front, and the rest stays
abbrev pub InFull : List ℕ → List ℕ → Written → List ℕ → Type 0
InFull text out r out' = Carries r.verdict 0 0 × (r.count ≡ length text) × (out' ≡ over text out)

-- one or the other, by the length of the room
pub record Printing : Type 0 where
  pub short : (s out : List ℕ) (r : Written) (out' : List ℕ) → Prints s out r out' → length out < length (sheet_text s)
      → TooShort (sheet_text s) out r out'
  pub enough : (s out : List ℕ) (r : Written) (out' : List ℕ) → Prints s out r out' → length (sheet_text s) ≤ length out
      → InFull (sheet_text s) out r out'
