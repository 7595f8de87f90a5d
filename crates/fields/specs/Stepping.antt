-- Document 01, "Codes and what they leave": reading goes number by number, and the first fault met is given.
use Rattle.std.specs.Prelude.{ℕ, List, [], ◌∷◌, ◌++◌, length, replicate}
use Rattle.lists.specs.Lists.{pick}
use Rattle.model.specs.Task.{Task}
use Rattle.numbers.specs.Numbers.{number_at}
use Rattle.numbers.specs.Numbers.{Number}
use Rattle.numbers.specs.Numbers as N
use Rattle.table.specs.declared.Verdict.{Verdict}
use Rattle.table.specs.declared.Verdict.TheVariants.{EndsEarly, Malformed}
use Rattle.table.specs.Verdicts.{good}
use Rattle.table.specs.declared.Wanted.{Wanted}
use Rattle.table.specs.Fields.{head, time, row_from, judge}
use Rattle.table.specs.Memory.{task_of}

-- reading stops at a fault, or goes on from the next place with what was read
pub data Step (A : Type 0) : Type 0 where
  stop : Verdict → Step A
  go : A → ℕ → Step A

-- first one thing, then another from where it ends
unfoldable pub ◌then◌ : {A B : Type 0} → Step A → (A → ℕ → Step B) → Step B
stop v then f = stop v
go a next then f = f a next

infixr 20 ◌then◌
-- go on where the verdict is good, else stop with it
unfoldable pub unless : {A : Type 0} → Verdict → A → ℕ → Step A
unless v a next = pick (good v) (go a next) (stop v)

-- at one number in the order 1, 2, 3, 7
unfoldable pub asked : Wanted → List ℕ → ℕ → Number → Step ℕ
asked w s at (N.Got value next) = unless (judge w at value) value next
asked w s at N.EndsEarly = stop (EndsEarly (length s))
asked w s at N.Malformed = stop (Malformed at)

-- the number wanted at a place of a file
unfoldable pub field_at : List ℕ → Wanted → ℕ → Step ℕ
field_at s w at = asked w s at (number_at s at)

-- numbers one after another, each read as `one` says, behind those that are done
unfoldable pub fields_at : (Wanted → ℕ → Step ℕ) → List Wanted → List ℕ → ℕ → Step (List ℕ)
fields_at one [] done at = go done at
fields_at one (w ∷ ws) done at = one w at then λ value at. fields_at one ws (done ++ (value ∷ [])) at

-- the times of a row of a file: one worst time per part
abbrev pub times_at : List ℕ → ℕ → ℕ → Step (List ℕ)
times_at s parts at = fields_at (field_at s) (replicate parts time) [] at

-- a row, with `used` times before it: its fields, each read as `one` says, then one worst time per part
unfoldable pub row_by : (Wanted → ℕ → Step ℕ) → (ℕ → ℕ → Step (List ℕ)) → ℕ → ℕ → Step Task
row_by one times used at =
    fields_at one (head used) [] at then λ fields at.
    times (row_from fields).parts at then λ times at.
    go (task_of (row_from fields) times) at
