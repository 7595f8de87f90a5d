-- Document 02, §4: the list of a chain's steps, in the seven-bit numbers, count first.
use Rattle.std.specs.Prelude.{ℕ, zero, suc, List, [], ◌∷◌, length, ltb}
use Rattle.lists.specs.Lists.{pick}
use Rattle.table.specs.declared.Verdict.TheVariants.{Trailing}
use Rattle.table.specs.declared.Wanted.{Wanted}
use Rattle.table.specs.Fields.{field}
use Rattle.chains.specs.declared.ChainStep.{ChainStep}
use Rattle.fields.specs.Stepping.{Step, stop, go, ◌then◌, field_at, fields_at}

-- 1 to 32 steps
abbrev pub step_count : Wanted
step_count = field 1 32

-- each a task id 1 to 65,535 and a part 1 to 64
unfoldable pub steps_wanted : ℕ → List Wanted
steps_wanted zero = []
steps_wanted (suc n) = field 1 65535 ∷ field 1 64 ∷ steps_wanted n

-- the steps of their numbers
unfoldable pub steps_from : List ℕ → List ChainStep
steps_from (task ∷ part ∷ numbers) = record { task = task; part = part } ∷ steps_from numbers
steps_from (task ∷ []) = []
steps_from [] = []

-- n steps from a place on, then the end: 8 for bytes after the last step
unfoldable pub steps_at : List ℕ → ℕ → ℕ → Step (List ℕ)
steps_at s n at =
    fields_at (field_at s) (steps_wanted n) [] at then λ numbers at.
    pick (ltb at (length s)) (stop (Trailing at)) (go numbers at)

-- the numbers of the list's steps: behind the count
unfoldable pub list_numbers : List ℕ → Step (List ℕ)
list_numbers s = field_at s step_count 0 then λ count at. steps_at s count at

-- the list's steps
unfoldable pub decode_list : List ℕ → Step (List ChainStep)
decode_list s = list_numbers s then λ numbers at. go (steps_from numbers) at
