-- Document 01, "The table": what the tasks of a good file are, in its numbers and words, both ways.
use Rattle.std.specs.Prelude.{ℕ, ◌≤◌, ◌<◌, ◌≡◌, ◌↔◌, List, [], ◌∷◌, length}
use Rattle.lists.specs.Lists.{total, Place}
use Rattle.numbers.specs.Numbers.{Bytes}
use Rattle.model.specs.Task.{Task, parts}
use Rattle.model.specs.Rows.{GoodTask}
use Rattle.fields.specs.Stepping.{go}
use Rattle.files.specs.Reading.{decode}
use Rattle.demands.specs.Rules.{GoodFile}

-- two rows that may not both stand in a table
pub data Against (a b : Task) : Type 0 where
  -- they have the same id
  id : a.id ≡ b.id → Against a b
  -- the same core and the same priority
  priority : a.core ≡ b.core → a.priority ≡ b.priority → Against a b
  -- the same core, one cooperative, one preemptive, the cooperative one higher
  kinds : a.core ≡ b.core → a.kind ≡ 1 → b.kind ≡ 0 → b.priority < a.priority → Against a b

-- at most 64 rows and 1,024 times in all, each row in its ranges, and no two rows against each other
pub record GoodRows (tasks : List Task) : Type 0 where
  pub rows : length tasks ≤ 64
  pub times : total parts tasks ≤ 1024
  pub ranges : (i : ℕ) (t : Task) → Place tasks i t → GoodTask t
  pub apart : (i j : ℕ) (a b : Task) → Place tasks i a → Place tasks j b → (i ≡ j → ⊥) → Against a b → ⊥

-- some good file has these tasks, exactly if they are good rows
abbrev pub GoodTables : Type 0
GoodTables = (tasks : List Task) → ((s : List ℕ) × Bytes s × GoodFile s tasks) ↔ GoodRows tasks

-- no rows is a good table
abbrev pub NoRowsIsGood : Type 0
NoRowsIsGood = decode (0 ∷ []) ≡ go [] 1
