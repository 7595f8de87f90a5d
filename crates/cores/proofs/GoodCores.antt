-- The rows of a core of a good table, as one value, are good and fit. Assumes nothing.
use Prim.Native.Nat.{ℕ}
use mathlib.Core.Path.{◌≡◌, sym, ap, ◌∙◌}
use Rattle.model.specs.Bounds.{on_core}
use Rattle.table.specs.declared.GoodTable.{GoodTable}
use Rattle.table.specs.Memory.{tasks_of}
use Rattle.table.proofs.GoodCore.{good-core, core-fits}
use Rattle.cores.specs.declared.Core.{Core}
use Rattle.cores.specs.Cores.{core_of, tasks_in}
use Rattle.cores.specs.Promises.{IsCore}
use Rattle.cores.proofs.AskedRows.{tasks_in_lem}

-- each core, as one value
pub core_of-good : (t : GoodTable) (core : ℕ) {c : Core} → c ≡ core_of (on_core core (tasks_of t.table)) → IsCore c
core_of-good t core {c} made =
    let same : tasks_in c ≡ on_core core (tasks_of t.table) = ap tasks_in made ∙ tasks_in_lem (on_core core (tasks_of t.table)) in
    record {
      good = rw same (good-core t.table t.all_rows t.all_times t.good core);
      fits = rw same (core-fits t.table t.all_rows t.all_times t.good core);
      is = made ∙ ap core_of (sym same);
    }
