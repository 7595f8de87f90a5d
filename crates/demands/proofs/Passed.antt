-- What an answer says of the rows of a core of a good file. From demand 1.
use Prim.Native.Nat.{ℕ}
use mathlib.Core.Path.{◌≡◌, refl, subst}
use mathlib.Core.Logic.{◌⊎◌, ⊎_elim}
use mathlib.Core.List.{List}
use lib.ListN.{length}
use Rattle.model.specs.Task.{Task}
use Rattle.model.specs.Bounds.{on_core}
use Rattle.model.specs.Verdict.{AllWindows, Passes}
use Rattle.table.specs.declared.Verdict.{Verdict}
use Rattle.table.specs.Verdicts.{code_of}
use Rattle.files.specs.Reading.{decode}
use Rattle.fields.proofs.Taken.{stopped_not}
use Rattle.analysis.specs.declared.Analysed.{Analysed}
use Rattle.analysis.specs.Analysis.{Analyses}
use Rattle.demands.specs.Rules.{GoodFile, CoreRule, AnalysisRule}
use Rattle.demands.specs.Demand1.{Bounds}
use Rattle.demands.proofs.FileRule.{good-read, by_rule}
use Rattle.demands.proofs.CoreRule.{passes_code, written_code}
use Rattle.demands.proofs.Answer.{answer_says}

-- a good file has one list of tasks
same_tasks : {s : List ℕ} {tasks others : List Task} → GoodFile s tasks → GoodFile s others → tasks ≡ others
same_tasks g h = let a = good-read g in let b = good-read h in cc

module _ (s : List ℕ) (core : ℕ) (room : List ℕ) (r : Analysed) (room' : List ℕ) (a : Analyses s core room r room')
    (tasks : List Task) (g : GoodFile s tasks) where
  -- the core's rule decides
  pub core-rule : CoreRule core (on_core core tasks) (length room) r.verdict
  core-rule = of-rule (((answer_says s core room r room' a).codes r.verdict).0 refl)
    where
      of-rule : {v : Verdict} → AnalysisRule s core (length room) v → CoreRule core (on_core core tasks) (length room) v
      of-rule (AnalysisRule.reading f n) =
          ⊎_elim (λ x. absurd (n x.0)) (λ x. stopped_not (decode s) x.said (good-read g)) (by_rule f)
      of-rule {v} (AnalysisRule.analysed h c) =
          subst (λ (ts : List Task). CoreRule core (on_core core ts) (length room) v) (same_tasks h g) c

  -- with code 0 the core passes
  pub core_passes : code_of r.verdict ≡ 0 → Passes (on_core core tasks)
  core_passes e = (passes_code core (on_core core tasks) (length room) core-rule e).1

  -- with 0 or 12 every row has a window
  pub all-windows : (code_of r.verdict ≡ 0) ⊎ (code_of r.verdict ≡ 12) → AllWindows (on_core core tasks)
  all-windows w = (written_code core (on_core core tasks) (length room) core-rule w).1

  -- and its bounds are written
  pub bounds-left : (code_of r.verdict ≡ 0) ⊎ (code_of r.verdict ≡ 12) → Bounds (on_core core tasks) room r room'
  bounds-left w =
      let b = (answer_says s core room r room' a).written w in
      subst (λ (ts : List Task). Bounds (on_core core ts) room r room') (same_tasks b.1 g) b.2
