-- Demand 2: bounds are the least solutions of equations 4 to 12 of the Modena paper, as document 01 sets them, and 10 as document 02, §3,
-- does. A core passes exactly if every task has a window up to the limit and its last bound is within its deadline. Reading a written
-- table gives its rows and times back; writing a read file gives its bytes.
use Rattle.std.specs.Prelude.{ℕ, ◌<◌, ◌≡◌, ◌⊎◌, ◌↔◌, List, length}
use Rattle.lists.specs.Lists.{◌∈◌, Place}
use Rattle.model.specs.Task.{Task, parts}
use Rattle.model.specs.Rows.{GoodCore}
use Rattle.model.specs.Bounds.{on_core}
use Rattle.table.specs.Verdicts.{code_of}
use Rattle.files.specs.RoundTrips.{WrittenIsRead, ReadIsWritten}
use Rattle.analysis.specs.declared.Analysed.{Analysed}
use Rattle.analysis.specs.Analysis.{Analyses}
use Rattle.demands.specs.Rules.{GoodFile, RoomFor}
use Rattle.demands.specs.Equations.{IsWindow, IsBound, Equations, Meets}
use Rattle.demands.specs.Demand3.{place_of}

-- the numbers left are the bounds of the core's rows
abbrev pub LeavesBounds : List Task → List ℕ → Type 0
LeavesBounds rows room' =
    (i : ℕ) (row : Task) → Place rows i row → (p : ℕ) → p < parts row
    → (n : ℕ) × (L : ℕ) × Place room' (place_of rows i p) n × IsWindow rows row L × IsBound rows row L p n

-- two good files whose rows on a core are the same, in the same order, and equal room: equal answers, equal rooms afterwards
abbrev pub Isolated : Type 0
Isolated =
    (core : ℕ) (room : List ℕ) (s z : List ℕ) (tasks others : List Task) → GoodFile s tasks → GoodFile z others
    → on_core core tasks ≡ on_core core others
    → (r q : Analysed) (room' left : List ℕ) → Analyses s core room r room' → Analyses z core room q left
    → (r ≡ q) × (room' ≡ left)

-- demand 2
pub record Demand2 : Type 0 where
  pub equations : (rows : List Task) → GoodCore rows → (t : Task) → t ∈ rows → Equations rows t
  pub bounds : (s : List ℕ) (core : ℕ) (room : List ℕ) (r : Analysed) (room' : List ℕ) → Analyses s core room r room'
      → (code_of r.verdict ≡ 0) ⊎ (code_of r.verdict ≡ 12)
      → (tasks : List Task) → GoodFile s tasks → LeavesBounds (on_core core tasks) room'
  pub passes : (s : List ℕ) (core : ℕ) (room : List ℕ) (r : Analysed) (room' : List ℕ) → Analyses s core room r room'
      → (tasks : List Task) → GoodFile s tasks → RoomFor core (on_core core tasks) (length room)
      → (code_of r.verdict ≡ 0) ↔ ((t : Task) → t ∈ on_core core tasks → Meets (on_core core tasks) t)
  pub written_is_read : WrittenIsRead
  pub read_is_written : ReadIsWritten
  pub isolated : Isolated
