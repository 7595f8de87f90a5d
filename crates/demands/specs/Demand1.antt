-- Demand 1: every file, core number and lent room gets one answer. Each refusal comes exactly when its rule says; the caller need
-- check nothing first. A refused file, core or room, or a window above the limit, changes nothing lent; a missed deadline still
-- writes every bound and names the highest task that misses.
use Rattle.std.specs.Prelude.{ℕ, ◌≡◌, ◌⊎◌, ◌↔◌, List, [], length}
use Rattle.lists.specs.Lists.{over}
use Rattle.model.specs.Task.{Task}
use Rattle.model.specs.Bounds.{on_core}
use Rattle.table.specs.declared.Verdict.{Verdict}
use Rattle.table.specs.Verdicts.{code_of}
use Rattle.table.specs.Memory.{stored}
use Rattle.files.specs.Reading.{read_answer}
use Rattle.analysis.specs.declared.Analysed.{Analysed}
use Rattle.analysis.specs.Analysis.{needed, core_bounds, Analyses}
use Rattle.demands.specs.Rules.{FileRule, GoodFile, AnalysisRule}

-- one answer, and one room left
pub record Answered (s : List ℕ) (core : ℕ) (room : List ℕ) : Type 0 where
  pub answer : Analysed
  pub left : List ℕ
  pub given : Analyses s core room answer left
  pub only : (r : Analysed) (room' : List ℕ) → Analyses s core room r room' → (r ≡ answer) × (room' ≡ left)

-- every bound of the core's rows stands in front, in row order, parts in order; elements past them stay
pub record Bounds (rows : List Task) (room : List ℕ) (r : Analysed) (room' : List ℕ) : Type 0 where
  pub bounds : room' ≡ over (core_bounds rows) room
  pub count : r.count ≡ needed rows
  pub size : length room' ≡ length room

-- what an answer and the room left say
pub record AnswerSays (s : List ℕ) (core : ℕ) (room : List ℕ) (r : Analysed) (room' : List ℕ) : Type 0 where
  -- the verdict is this one, with the number that it carries, exactly if its rule says so
  pub codes : (v : Verdict) → (r.verdict ≡ v) ↔ AnalysisRule s core (length room) v
  -- every refusal but 12 changes nothing lent
  pub kept : (code_of r.verdict ≡ 0 → ⊥) → (code_of r.verdict ≡ 12 → ⊥) → (room' ≡ room) × (r.count ≡ 0)
  -- a core that passes or misses a deadline has every bound written
  pub written : (code_of r.verdict ≡ 0) ⊎ (code_of r.verdict ≡ 12)
      → (tasks : List Task) × GoodFile s tasks × Bounds (on_core core tasks) room r room'

-- reading alone: a refused read gives a table of zeros, a good one the file's rows and times
pub record Reads (s : List ℕ) : Type 0 where
  pub codes : (v : Verdict) → ((read_answer s).verdict ≡ v) ↔ FileRule s v
  pub zeros : (code_of (read_answer s).verdict ≡ 0 → ⊥) → (read_answer s).table ≡ stored []
  pub rows : (tasks : List Task) → GoodFile s tasks → (read_answer s).table ≡ stored tasks

-- demand 1
pub record Demand1 : Type 0 where
  pub one : (s : List ℕ) (core : ℕ) (room : List ℕ) → Answered s core room
  pub says : (s : List ℕ) (core : ℕ) (room : List ℕ) (r : Analysed) (room' : List ℕ) → Analyses s core room r room'
      → AnswerSays s core room r room'
  pub reads : (s : List ℕ) → Reads s
