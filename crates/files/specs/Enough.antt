-- Document 01: 5,124 bytes are enough to judge any file.
use Rattle.std.specs.Prelude.{ℕ, ◌≡◌, List, take}
use Rattle.numbers.specs.Numbers.{Bytes}
use Rattle.files.specs.Reading.{read_answer}

-- a longer file is read as its first 5,124 bytes are
abbrev pub EnoughToJudge : Type 0
EnoughToJudge = (s : List ℕ) → Bytes s → read_answer (take 5124 s) ≡ read_answer s
