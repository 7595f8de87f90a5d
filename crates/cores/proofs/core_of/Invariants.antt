-- `cores::core_of` meets its contract. The invariant: the core's rows so far lie in memory, with what is asked of each, and those left
-- follow. Assumes nothing.
use Rattle.std.proofs.Common.{◌≡◌, ◌++◌, ◌+◌, ◌≤◌, ℕ, List, map, length}
use Rattle.lists.specs.Lists.{pad_to}
use Rattle.model.specs.Task.{Task}
use Rattle.model.specs.Bounds.{on_core}
use Rattle.table.specs.declared.Row.{Row}
use Rattle.table.specs.declared.Table.{Table}
use Rattle.table.specs.Memory.{all_times, stored, tasks_of}
use Rattle.table.proofs.Walk.{Left}
use Rattle.cores.specs.declared.Asked.{Asked}
use Rattle.cores.specs.Cores.{asked_of, asked_nothing}
use Rattle.cores.proofs.core_of.Given as goal

-- `mine` are the core's rows so far, and `tasks` those from row i on, whose times `rest` begins with
pub record Keeping (t : Table) (core : ℕ) (own : Table) (parts : ℕ) (asked : List Asked) (rows : List Row) (rest : List ℕ) (i : ℕ)
    : Type 0 where
  pub mine : List Task
  pub owns : own ≡ stored mine
  pub counts : parts ≡ length (all_times mine)
  pub asks : asked ≡ pad_to asked_nothing 64 (map asked_of mine)
  pub tasks : List Task
  pub left : Left rows rest i tasks
  pub all : on_core core (tasks_of t) ≡ mine ++ on_core core tasks
  pub few : length mine + length tasks ≤ 64
  pub room : parts + length (all_times tasks) ≤ 1024

abbrev pub invariant-loop-row : goal.invariant-loop-row
invariant-loop-row l = Keeping l.t.table l.core l.own l.parts l.asked l.row-items l.rest l.row-index
