-- A list is judged by its first 132 bytes, and a table by its first 5,124: from how their numbers are read. Assumes nothing.
use Prim.Native.Nat.{ℕ, zero, suc, ◌*◌, ◌≤◌}
use native.Mathlib.Omega.{arith}
use mathlib.Core.Path.{◌≡◌, refl, ap}
use mathlib.Core.List.{List, []}
use lib.ListN.{take}
use Rattle.lists.specs.Lists.{total}
use Rattle.numbers.specs.Numbers.{encode_in, encode}
use Rattle.model.specs.Task.{Task}
use Rattle.fields.specs.Stepping.{Step, stop, go, field_at, fields_at}
use Rattle.fields.proofs.Sizes.{bytes_of, bytes_one}
use Rattle.fields.proofs.Taken.{field-read}
use Rattle.fields.proofs.Judged.{then_same, front, Long, field_same, field_end, run_end, fields_same, left_same, judged_by-front}
use Rattle.files.specs.Reading.{decode}
use Rattle.files.proofs.Enough.{decodes_alike}
use Rattle.chains.specs.Lists.{step_count, steps_wanted, steps_at, list_numbers, decode_list}
use Rattle.chains.specs.Chains.{chain_in, answer_for, delay_answer}
use Rattle.chains.specs.Claims.{ListOfTheFront, TableOfTheFront}

-- a step takes four bytes: three for its task and one for its part
bytes_steps : (n : ℕ) → total bytes_of (steps_wanted n) ≡ 4 * n
unfolding steps_wanted total bytes_of encode encode_in
bytes_steps zero = refl
bytes_steps (suc n) = omega (arith, bytes_steps n)

module _ (list : List ℕ) (long : Long 129 list) where
  -- at most 32 steps behind a count of one byte
  steps_same : (n at : ℕ) → n ≤ 32 → at ≤ 1 → steps_at list n at ≡ steps_at (front 129 list) n at
  unfolding steps_at
  steps_same n at few first =
      then_same (fields_at (field_at list) (steps_wanted n) [] at) _ _ _
      (fields_same long (steps_wanted n) [] at (omega (arith, bytes_steps n)))
      (λ numbers next e.
      let last : next ≤ 129 = omega (arith, run_end long (steps_wanted n) at numbers next e, bytes_steps n) in
      rw (left_same long next last))

  -- the whole list
  list_same : list_numbers list ≡ list_numbers (front 129 list)
  unfolding list_numbers
  list_same =
      then_same (field_at list step_count 0) _ _ _ (field_same long step_count 0 (omega arith))
      (λ count at e.
      let few : count ≤ 32 = (field-read list step_count 0 count at e).fine.most in
      let first : at ≤ 1 = omega (arith, field_end long step_count 0 count at e, bytes_one step_count (omega arith)) in
      steps_same count at few first)

-- a longer list gives the numbers that its front gives, so the same answer
pub list-of_the_front : ListOfTheFront
unfolding delay_answer
list-of_the_front s list bs = of-step (decode s)
  where
    of-step : (x : Step (List Task)) → answer_for x (take 132 list) ≡ answer_for x list
    of-step (stop v) = unfold answer_for in refl
    of-step (go tasks next) = unfold answer_for chain_in decode_list in rw (judged_by-front 129 list_numbers list_same list bs)

-- a longer table decodes as its front does
pub table-of_the_front : TableOfTheFront
unfolding delay_answer
table-of_the_front s list bs = ap (λ x. answer_for x list) (decodes_alike s bs)
