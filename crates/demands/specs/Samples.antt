-- The samples of document 01 that are marked P, with the values of document 02, §3, where it gives new ones, together: those on the
-- bounds, those on bytes, and Set A's answer.
use Rattle.std.specs.Prelude.{ℕ, ◌≡◌, List, [], ◌∷◌}
use Rattle.numbers.specs.Numbers.{number_at}
use Rattle.numbers.specs.Numbers as N
use Rattle.model.specs.BoundSamples.{set_a, one, full}
use Rattle.model.specs.BoundSamples as Model
use Rattle.table.specs.declared.Verdict.TheVariants as C
use Rattle.fields.specs.Stepping.{stop, go}
use Rattle.files.specs.Reading.{decode}
use Rattle.analysis.specs.Analysis.{core_said, Analyses}

-- Set A as a file, with task 3's deadline at d
abbrev pub bytes_a : ℕ → List ℕ
bytes_a d =
    3 ∷ 1 ∷ 0 ∷ 0 ∷ 3 ∷ 5 ∷ 5 ∷ 1 ∷ 1 ∷ 2 ∷ 0 ∷ 1 ∷ 2 ∷ 10 ∷ 10 ∷ 2 ∷ 1 ∷ 2
    ∷ 3 ∷ 0 ∷ 1 ∷ 1 ∷ 20 ∷ d ∷ 2 ∷ 2 ∷ 3 ∷ []

-- all of them
pub record Samples : Type 0 where
  pub on_bounds : Model.BoundSamples
  -- FF FF FF 07 read as 16,777,215
  pub four_bytes : number_at (255 ∷ 255 ∷ 255 ∷ 7 ∷ []) 0 ≡ N.Got 16777215 4
  -- 80 00: code 2 at offset 0
  pub zero_last : decode (128 ∷ 0 ∷ []) ≡ stop (C.Malformed 0)
  -- 80: code 1, number 1
  pub cut : decode (128 ∷ []) ≡ stop (C.EndsEarly 1)
  -- Set A's 27 bytes are Set A
  pub read_a : decode (bytes_a 20) ≡ go (set_a 20) 27
  -- its five bounds, in a room with one element more
  pub bounds_a : Analyses (bytes_a 20) 0 (0 ∷ 0 ∷ 0 ∷ 0 ∷ 0 ∷ 6 ∷ []) (record { verdict = C.Good; count = 5 })
      (1 ∷ 4 ∷ 7 ∷ 7 ∷ 10 ∷ 6 ∷ [])
  -- the verdicts as codes, with room enough
  pub good_a : core_said 0 (set_a 10) 5 ≡ C.Good
  pub late_a : core_said 0 (set_a 9) 5 ≡ C.Missed 3
  pub limit_good : core_said 0 (one 16777215) 1 ≡ C.Good
  pub limit_over : core_said 0 (one 16777214) 1 ≡ C.NoWindow 1
  pub full_lower : core_said 0 full 2 ≡ C.NoWindow 2
