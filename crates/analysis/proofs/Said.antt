-- What is said of a core's rows, from the highest row without a window and the highest that misses its deadline. Assumes nothing.
use Prim.Native.Nat.{ℕ, ◌≤◌}
use borrow.Author.Tests.{ltb-false}
use mathlib.Core.Path.{◌≡◌, refl, sym, ap, subst, ◌∙◌}
use mathlib.Core.Bool.{Bool, true, false, not}
use mathlib.Core.List.{List}
use mathlib.Core.Option.{Option, some, none}
use lib.Dec.{ltb}
use Rattle.std.specs.Prelude.{Result, Ok, Err}
use Rattle.arrayvec.specs.ArrayVec.{ArrayVec}
use Rattle.lists.specs.Lists.{pick}
use Rattle.lists.proofs.Tests.{never}
use Rattle.model.specs.Least.{Found}
use Rattle.model.specs.Task.{Task}
use Rattle.model.specs.Least.{found}
use Rattle.model.specs.Bounds.{highest, judged_by, core_verdict}
use Rattle.model.specs.Verdict.{AllWindows, Judged}
use Rattle.model.proofs.Verdict.{verdict_says}
use Rattle.model.proofs.Highest.{none_highest}
use Rattle.table.specs.declared.Verdict.{Verdict}
use Rattle.table.specs.declared.Verdict.TheVariants.{NoRoom, NoWindow}
use Rattle.table.specs.Verdicts.{said}
use Rattle.analysis.specs.Analysis.{needed, named, room_said, writes}
use Rattle.analysis.specs.Promises.{lacks, late, said_late, WindowsOf, WindowsFor}

-- where the highest late row is said, bounds are written
pub late-writes : (o : Option Task) → writes (said (said_late o)) ≡ true
unfolding writes
late-writes none = refl
late-writes (some t) = refl

module _ (rows : List Task) where
  -- what both say
  verdict-of : (a b : Option Task) → highest (lacks rows) rows ≡ a → highest (late rows) rows ≡ b → core_verdict rows ≡ judged_by a b
  unfolding core_verdict lacks late
  verdict-of a b p q = rw (p, q)

  -- where each row has a window none lacks one
  none_lacks : AllWindows rows → highest (lacks rows) rows ≡ none
  unfolding lacks found
  none_lacks w = none_highest (lacks rows) rows (λ t m e. never e (ap (λ (a : Found). not (found a)) (w t m).1))

  -- and the other way round
  pub lacks_none : highest (lacks rows) rows ≡ none → AllWindows rows
  unfolding judged_by
  lacks_none e = of (highest (late rows) rows) refl
    where
      of : (b : Option Task) → highest (late rows) rows ≡ b → AllWindows rows
      of none q = (subst (Judged rows) (verdict-of none none e q) (verdict_says rows)).windows
      of (some t) q = (subst (Judged rows) (verdict-of none (some t) e q) (verdict_says rows)).windows

  -- 11 names the highest row without a window
  pub no_window_lem : (t : Task) → highest (lacks rows) rows ≡ some t → named (core_verdict rows) ≡ NoWindow t.id
  unfolding named judged_by
  no_window_lem t e = ap named (verdict-of (some t) _ e refl)

  -- where each row has one, 12 names the highest that misses its deadline, and without one the core is good
  pub windowed_said : AllWindows rows → named (core_verdict rows) ≡ said (said_late (highest (late rows) rows))
  unfolding named judged_by
  windowed_said w = of (highest (late rows) rows) refl
    where
      of : (b : Option Task) → highest (late rows) rows ≡ b → named (core_verdict rows) ≡ said (said_late b)
      of none q = ap named (verdict-of none none (none_lacks w) q)
      of (some t) q = ap named (verdict-of none (some t) (none_lacks w) q)

  module _ (room : ℕ) where
    -- where the windows are refused, so is the core, and nothing is written
    pub windows_refused : {v : Verdict} → WindowsFor rows room (Err v) → (room_said rows room ≡ v) × (writes v ≡ false)
    unfolding room_said writes
    windows_refused {v = v} w = of (ltb room (needed rows)) w
      where
        none : ◌≡◌ {A = Result (ArrayVec ℕ) Verdict} (Err v) (Err (NoRoom (needed rows))) → v ≡ NoRoom (needed rows)
        none e = cc

        of : (b : Bool) → pick b (◌≡◌ {A = Result (ArrayVec ℕ) Verdict} (Err v) (Err (NoRoom (needed rows)))) (WindowsOf rows (Err v))
            → (pick b (NoRoom (needed rows)) (named (core_verdict rows)) ≡ v) × (writes v ≡ false)
        of true e = let q = none e in (sym q, rw q)
        of false u = (no_window_lem u.0 u.1 ∙ sym u.2, rw u.2)

    -- where there are windows there is room, and each row has one
    pub windows_there : {ls : ArrayVec ℕ} → WindowsFor rows room (Ok ls) → (needed rows ≤ room) × WindowsOf rows (Ok ls)
    windows_there {ls = ls} w = of (ltb room (needed rows)) refl w
      where
        of : (b : Bool) → ltb room (needed rows) ≡ b
            → pick b (◌≡◌ {A = Result (ArrayVec ℕ) Verdict} (Ok ls) (Err (NoRoom (needed rows)))) (WindowsOf rows (Ok ls))
            → (needed rows ≤ room) × WindowsOf rows (Ok ls)
        of true e q = cc
        of false e u = (ltb-false room (needed rows) e, u)
