-- Document 02, §4: worked chains, from the bytes of the table and of the list. The table is Set A, with task 3's deadline at 20 or at 9,
-- or the second sample.
use Rattle.std.specs.Prelude.{ℕ, ◌≡◌, List, [], ◌∷◌}
use Rattle.table.specs.declared.Verdict.TheVariants as C
use Rattle.chains.specs.declared.About.TheVariants as A
use Rattle.chains.specs.declared.Delayed.{Delayed}
use Rattle.chains.specs.Chains.{no_delay, good_delay, delay_answer}
use Rattle.demands.specs.Samples.{bytes_a}
use Rattle.demands.specs.SampleB.{bytes_b}

-- the answer for Set A and this list
abbrev pub along_a : List ℕ → Delayed
along_a list = delay_answer (bytes_a 20) list

-- and where core 0 has code 12, number 3
abbrev pub along_late : List ℕ → Delayed
along_late list = delay_answer (bytes_a 9) list

-- all of them
pub record ChainSamples : Type 0 where
  -- task 1 part 1, task 2 part 1, task 2 part 2: 5 + 1 + 10 + 7
  pub chain_a : along_a (3 ∷ 1 ∷ 1 ∷ 2 ∷ 1 ∷ 2 ∷ 2 ∷ []) ≡ good_delay 23
  -- a part twice: 10 + 7 + 10 + 7; an earlier part after a later one: 10 + 7 + 10 + 4
  pub twice : along_a (2 ∷ 2 ∷ 2 ∷ 2 ∷ 2 ∷ []) ≡ good_delay 34
  pub falling : along_a (2 ∷ 2 ∷ 2 ∷ 2 ∷ 1 ∷ []) ≡ good_delay 31
  -- the table's reading codes first
  pub table : delay_answer (128 ∷ []) [] ≡ no_delay A.File (C.EndsEarly 1)
  -- no list; a list that ends inside a step; a count in two bytes; no step; 33 steps; task 0; part 65; a byte behind the last step
  pub none : along_a [] ≡ no_delay A.List (C.EndsEarly 0)
  pub cut : along_a (2 ∷ 1 ∷ 1 ∷ 2 ∷ []) ≡ no_delay A.List (C.EndsEarly 4)
  pub long : along_a (129 ∷ 0 ∷ []) ≡ no_delay A.List (C.Malformed 0)
  pub no_step : along_a (0 ∷ []) ≡ no_delay A.List (C.OutOfRange 0)
  pub too_many : along_a (33 ∷ []) ≡ no_delay A.List (C.OutOfRange 0)
  pub task0 : along_a (1 ∷ 0 ∷ 1 ∷ []) ≡ no_delay A.List (C.OutOfRange 1)
  pub part65 : along_a (1 ∷ 1 ∷ 65 ∷ []) ≡ no_delay A.List (C.OutOfRange 2)
  pub behind : along_a (1 ∷ 1 ∷ 1 ∷ 0 ∷ []) ≡ no_delay A.List (C.Trailing 3)
  -- task 9 is unknown, and so is part 3 of task 2
  pub no_task : along_a (1 ∷ 9 ∷ 1 ∷ []) ≡ no_delay A.List (C.UnknownStep 0)
  pub no_part : along_a (2 ∷ 1 ∷ 1 ∷ 2 ∷ 3 ∷ []) ≡ no_delay A.List (C.UnknownStep 1)
  -- the core of task 1 has code 12; an unknown step behind it comes first
  pub late : along_late (1 ∷ 1 ∷ 1 ∷ []) ≡ no_delay (A.Core 0) (C.Missed 3)
  pub unknown_first : along_late (2 ∷ 1 ∷ 1 ∷ 2 ∷ 3 ∷ []) ≡ no_delay A.List (C.UnknownStep 1)
  -- cores in step order: core 2 (11) is met before core 1 (12)
  pub core_order : delay_answer bytes_b (2 ∷ 41 ∷ 1 ∷ 31 ∷ 1 ∷ []) ≡ no_delay (A.Core 2) (C.NoWindow 41)
  -- over two cores: task 300 part 1, task 22 parts 1 and 2, task 300 part 2: 1000 + 130 + 34 + 30 + 1000 + 259
  pub two_cores : delay_answer bytes_b (4 ∷ 172 ∷ 2 ∷ 1 ∷ 22 ∷ 1 ∷ 22 ∷ 2 ∷ 172 ∷ 2 ∷ 2 ∷ []) ≡ good_delay 2453
