-- Demand 2 holds. From demand 1, the laws of the equations and the round trips of files.
use Prim.Native.Nat.{ℕ, ◌-◌, ◌≤◌, ◌<◌}
use native.Mathlib.Omega.{arith}
use mathlib.Core.Path.{◌≡◌, ap}
use mathlib.Core.Logic.{◌⊎◌, ◌↔◌}
use mathlib.Core.List.{List}
use lib.ListN.{length}
use Rattle.lists.specs.Lists.{◌∈◌}
use Rattle.lists.proofs.Places.{place_in_lem}
use Rattle.std.specs.Prelude.{Some}
use Rattle.model.specs.Task.{Task, parts}
use Rattle.model.specs.Rows.{GoodCore}
use Rattle.model.specs.Bounds.{on_core, window, bound}
use Rattle.model.specs.Verdict.{last_bound, Passes}
use Rattle.table.specs.declared.Verdict.TheVariants as C
use Rattle.table.specs.Verdicts.{code_of}
use Rattle.files.proofs.RoundTrips.{written_is_read_lem, read_is_written_lem}
use Rattle.analysis.specs.declared.Analysed.{Analysed}
use Rattle.analysis.specs.Analysis.{core_said, Gives, file_said, file_rows, Analyses}
use Rattle.demands.specs.Rules.{GoodFile, RoomFor, CoreRule, AnalysisRule}
use Rattle.demands.specs.Equations.{Meets}
use Rattle.demands.specs.Demand2.{LeavesBounds, Isolated, Demand2}
use Rattle.demands.proofs.FileRule.{good-read}
use Rattle.demands.proofs.GoodFile.{core-good}
use Rattle.demands.proofs.Answer.{answer_says}
use Rattle.demands.proofs.Passed.{core_passes, all-windows, bounds-left}
use Rattle.demands.proofs.Placed.{bound_placed}
use Rattle.demands.proofs.Equations.{window_is, one-bound, bound_is, equations}
use Rattle.demands.proofs.Unique.{gives_one}

-- a core passes by the model exactly if each row meets its deadline by the equations
module _ (rows : List Task) (core : GoodCore rows) where
  -- a row has a last part
  last-part : (t : Task) → t ∈ rows → parts t - 1 < parts t
  last-part t m = omega (arith, (core.good t m).count.least)

  -- where it passes, each does
  passes_meets : Passes rows → (t : Task) → t ∈ rows → Meets rows t
  passes_meets p t m =
      let w = p.windows t m in
      record {
        L = w.0;
        b = last_bound rows t;
        window = (window_is rows t w.0).0 w.1;
        bound = bound_is rows core t m w.0 w.1 (parts t - 1) (last-part t m);
        within = p.meets t m;
      }

  -- where each does, it passes
  meets_passes : ((t : Task) → t ∈ rows → Meets rows t) → Passes rows
  meets_passes all = record { windows = λ t m. ((all t m).L, found t m); meets = within }
    where
      found : (t : Task) (m : t ∈ rows) → window rows t ≡ Some (all t m).L
      found t m = (window_is rows t (all t m).L).1 (all t m).window

      within : (t : Task) → t ∈ rows → last_bound rows t ≤ t.deadline
      within t m =
          let own = bound_is rows core t m (all t m).L (found t m) (parts t - 1) (last-part t m) in
          let same = one-bound rows t (core.good t m) (all t m).L (parts t - 1) (last_bound rows t) (all t m).b own (all t m).bound in
          omega (arith, same, (all t m).within)

module _ (s : List ℕ) (core : ℕ) (room : List ℕ) (r : Analysed) (room' : List ℕ) (a : Analyses s core room r room')
    (tasks : List Task) (g : GoodFile s tasks) where
  -- the number left at a place is the bound
  leaves_bounds : (code_of r.verdict ≡ 0) ⊎ (code_of r.verdict ≡ 12) → LeavesBounds (on_core core tasks) room'
  leaves_bounds c i row l p h =
      let rows = on_core core tasks in
      let m = place_in_lem rows i row l in
      let w = all-windows s core room r room' a tasks g c row m in (
        bound rows row p,
        w.0,
        rw (bounds-left s core room r room' a tasks g c).bounds (bound_placed rows room i row l p h),
        (window_is rows row w.0).0 w.1,
        bound_is rows (core-good core g) row m w.0 w.1 p h,
      )

  -- the core passes exactly if each row meets its deadline
  passes_exactly : RoomFor core (on_core core tasks) (length room)
      → (code_of r.verdict ≡ 0) ↔ ((t : Task) → t ∈ on_core core tasks → Meets (on_core core tasks) t)
  passes_exactly e = (
    λ c. passes_meets (on_core core tasks) (core-good core g) (core_passes s core room r room' a tasks g c),
    λ all.
        ap code_of
        (((answer_says s core room r room' a).codes C.Good).1
        (AnalysisRule.analysed g (CoreRule.passes e (meets_passes (on_core core tasks) (core-good core g) all)))),
  )

  -- the core's rows decide
  by_rows : Gives (core_said core (on_core core tasks) (length room)) (on_core core tasks) room r room'
  unfolding file_said file_rows
  by_rows = rw (good-read g) at a

-- other cores' rows have no say
isolated : Isolated
isolated core room s z tasks others g h same r q room' left a b =
    gives_one (core_said core (on_core core others) (length room)) (on_core core others) room r q room' left
    (rw same at (by_rows s core room r room' a tasks g)) (by_rows z core room q left b others h)

-- demand 2
pub demand2 : Demand2
demand2 =
    record {
      equations = equations;
      bounds = λ s core room r room' a c tasks g. leaves_bounds s core room r room' a tasks g c;
      passes = passes_exactly;
      written_is_read = written_is_read_lem;
      read_is_written = read_is_written_lem;
      isolated = isolated;
    }
