-- Demand 3: for a passed core, in any run of the one-core machine that starts with nothing pending, with releases of a task at
-- least its period apart and each part using one tick up to its stated time: once a job's release lies as many ticks back as the
-- bound for a part, that part of that job has ended.
use Rattle.std.specs.Prelude.{ℕ, ◌+◌, ◌≤◌, ◌<◌, ◌≡◌, List, take}
use Rattle.lists.specs.Lists.{total, Place}
use Rattle.model.specs.Task.{Task, parts}
use Rattle.model.specs.Bounds.{on_core}
use Rattle.model.specs.Machine.{Run, stand_at, ReleasedIn, Allowed, Ended}
use Rattle.table.specs.Verdicts.{code_of}
use Rattle.analysis.specs.declared.Analysed.{Analysed}
use Rattle.analysis.specs.Analysis.{Analyses}
use Rattle.demands.specs.Rules.{GoodFile}

-- where the bound of part p of row i stands: behind those of the rows before it, parts in order
abbrev pub place_of : List Task → ℕ → ℕ → ℕ
place_of rows i p = total parts (take i rows) + p

-- once a job's release lies n ticks back, part p of that job has ended, in every allowed run
abbrev pub EndedAfter : List Task → Task → ℕ → ℕ → Type 0
EndedAfter rows row p n =
    (run : Run) → Allowed rows run → (q t u : ℕ) → ReleasedIn run row q t → t + n ≤ u → Ended (stand_at rows run u row) q p

-- so it is for the number that the analysis leaves at the place of each row and part of a core that passes
abbrev pub Demand3 : Type 0
Demand3 =
    (s : List ℕ) (core : ℕ) (room : List ℕ) (r : Analysed) (room' : List ℕ) → Analyses s core room r room' → code_of r.verdict ≡ 0
    → (tasks : List Task) → GoodFile s tasks → (i : ℕ) (row : Task) → Place (on_core core tasks) i row → (p : ℕ) → p < parts row
    → (n : ℕ) × Place room' (place_of (on_core core tasks) i p) n × EndedAfter (on_core core tasks) row p n
