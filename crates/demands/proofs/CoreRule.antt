-- A core's code is given exactly when its rule says so: 9, 10, 11, 12 and 0. From what a core's verdict says.
use Prim.Native.Nat.{ℕ}
use native.Mathlib.Omega.{arith}
use borrow.Author.Tests.{lt-ltb, le-ltb}
use mathlib.Core.Path.{◌≡◌, refl, sym, subst}
use mathlib.Core.Logic.{◌⊎◌, inl, inr, ⊎_elim}
use mathlib.Core.Bool.{false}
use mathlib.Core.List.{List}
use Rattle.lists.proofs.Tests.{either}
use Rattle.model.specs.Task.{Task}
use Rattle.model.specs.Rows.{Distinct}
use Rattle.model.specs.Bounds.{CoreVerdict, passes, no_window, misses, core_verdict}
use Rattle.model.specs.Verdict.{AllWindows, Passes, Judged}
use Rattle.model.proofs.Verdict.{verdict_says, judged_same}
use Rattle.table.specs.declared.Verdict.{Verdict}
use Rattle.table.specs.declared.Verdict.TheVariants as C
use Rattle.table.specs.Verdicts.{code_of, good}
use Rattle.analysis.specs.Analysis.{needed, named, room_said, core_said}
use Rattle.demands.specs.Rules.{RoomFor, CoreRule}

module _ (core : ℕ) (rows : List Task) (room : ℕ) where
  -- with such a core and room enough the verdict decides
  enough_said : RoomFor core rows room → (v : CoreVerdict) → core_verdict rows ≡ v → core_said core rows room ≡ named v
  unfolding core_said room_said
  enough_said e v same = rw (le-ltb 3 core e.such, le-ltb room (needed rows) e.fits, same)

  -- a right verdict is the core's
  right : Distinct rows → (v : CoreVerdict) → Judged rows v → core_verdict rows ≡ v
  right d v j = judged_same rows d (core_verdict rows) v (verdict_says rows) j

  -- what a rule says is said
  pub rule_said : Distinct rows → {v : Verdict} → CoreRule core rows room v → core_said core rows room ≡ v
  unfolding core_said room_said named
  rule_said d (CoreRule.above h) = rw (lt-ltb 3 core h)
  rule_said d (CoreRule.short h k) = rw (le-ltb 3 core h, lt-ltb room (needed rows) k)
  rule_said d (CoreRule.window {t = t} e w) = enough_said e (no_window t) (right d (no_window t) w)
  rule_said d (CoreRule.late {t = t} e m) = enough_said e (misses t) (right d (misses t) m)
  rule_said d (CoreRule.passes e p) = enough_said e passes (right d passes p)

  -- with such a core and room enough some rule holds
  enough_rule : RoomFor core rows room → (v : CoreVerdict) → Judged rows v → CoreRule core rows room (named v)
  unfolding named
  enough_rule e passes j = CoreRule.passes e j
  enough_rule e (no_window t) j = CoreRule.window e j
  enough_rule e (misses t) j = CoreRule.late e j

  -- some rule holds always
  some_rule : (v : Verdict) × CoreRule core rows room v
  some_rule =
      ⊎_elim (λ h. (_, CoreRule.above h))
      (λ such.
      ⊎_elim (λ h. (_, CoreRule.short such h))
      (λ fits. (_, enough_rule (record { such = such; fits = fits }) (core_verdict rows) (verdict_says rows)))
      (either room (needed rows)))
      (either 3 core)

  -- and what is said a rule says
  pub said_rule : Distinct rows → CoreRule core rows room (core_said core rows room)
  said_rule d = let r = some_rule in subst (CoreRule core rows room) (sym (rule_said d r.1)) r.1

  -- ---- by the code

  -- a core's verdict is good, or its code is not 0
  pub good-or-not : {v : Verdict} → CoreRule core rows room v → (v ≡ C.Good) ⊎ (good v ≡ false)
  unfolding good
  good-or-not (CoreRule.above h) = inr refl
  good-or-not (CoreRule.short h k) = inr refl
  good-or-not (CoreRule.window n w) = inr refl
  good-or-not (CoreRule.late n m) = inr refl
  good-or-not (CoreRule.passes n p) = inl refl

  -- 0: the core passes
  pub passes_code : {v : Verdict} → CoreRule core rows room v → code_of v ≡ 0 → RoomFor core rows room × Passes rows
  passes_code (CoreRule.above h) e = absurd (omega arith)
  passes_code (CoreRule.short h k) e = absurd (omega arith)
  passes_code (CoreRule.window n w) e = absurd (omega arith)
  passes_code (CoreRule.late n m) e = absurd (omega arith)
  passes_code (CoreRule.passes n p) e = (n, p)

  -- 12: every row has a window
  pub late-code : {v : Verdict} → CoreRule core rows room v → code_of v ≡ 12 → RoomFor core rows room × AllWindows rows
  late-code (CoreRule.above h) e = absurd (omega arith)
  late-code (CoreRule.short h k) e = absurd (omega arith)
  late-code (CoreRule.window n w) e = absurd (omega arith)
  late-code (CoreRule.late n m) e = (n, m.windows)
  late-code (CoreRule.passes n p) e = absurd (omega arith)

  -- so it is with either
  pub written_code : {v : Verdict} → CoreRule core rows room v → (code_of v ≡ 0) ⊎ (code_of v ≡ 12)
      → RoomFor core rows room × AllWindows rows
  written_code r (inl e) = let c = passes_code r e in (c.0, c.1.windows)
  written_code r (inr e) = late-code r e
