-- An analysis says and leaves what demand 1 asks for. From the rules of files and of cores.
use Prim.Native.Nat.{ℕ, ◌≤◌}
use native.Mathlib.Omega.{arith}
use borrow.Author.Tests.{eq-eqb, ne_eqb}
use mathlib.Core.Path.{◌≡◌, sym, ap, subst, ◌∙◌}
use mathlib.Core.Logic.{◌⊎◌, inl, inr, ⊎_elim}
use mathlib.Core.Bool.{true, false}
use mathlib.Core.List.{List}
use lib.ListN.{length}
use Rattle.lists.specs.Lists.{over}
use Rattle.lists.proofs.Overs.{over-length}
use Rattle.model.specs.Task.{Task}
use Rattle.model.specs.Bounds.{on_core}
use Rattle.table.specs.declared.Verdict.{Verdict}
use Rattle.table.specs.Verdicts.{code_of}
use Rattle.table.proofs.ReadingCodes.{RefusedReading, refused-not_0, refused-not_12}
use Rattle.files.specs.Reading.{decode, read_answer}
use Rattle.analysis.specs.declared.Analysed.{Analysed}
use Rattle.analysis.proofs.Given.{answered-verdict}
use Rattle.analysis.proofs.BoundsPut.{bounds-length}
use Rattle.analysis.specs.Analysis.{needed, core_bounds, core_said, writes, answered, room_after, Gives, file_said, file_rows, Analyses}
use Rattle.demands.specs.Rules.{FileRule, GoodFile, AnalysisRule}
use Rattle.demands.specs.Demand1.{Bounds, AnswerSays, Reads}
use Rattle.demands.proofs.Said.{said_exactly, zeros_said}
use Rattle.demands.proofs.FileRule.{reading-fault, good-read, by_rule, file-rule}
use Rattle.demands.proofs.CoreRule.{rule_said, said_rule, written_code}
use Rattle.demands.proofs.GoodFile.{core-good}

-- ---- the verdict

module _ (s : List ℕ) (core : ℕ) (room : ℕ) where
  -- for a good file the core decides
  good_said : {tasks : List Task} → GoodFile s tasks → file_said (decode s) core room ≡ core_said core (on_core core tasks) room
  unfolding file_said
  good_said g = rw (good-read g)

  -- some rule holds
  some_analysis : (v : Verdict) × AnalysisRule s core room v
  some_analysis =
      ⊎_elim (λ f. (f.0, AnalysisRule.reading f.1.rule (reading-fault f.1.code)))
      (λ g. (_, AnalysisRule.analysed g.file (said_rule core _ room (core-good core g.file).distinct)))
      (file-rule s)

  -- what a rule says is said
  rule_analysis : {v : Verdict} → AnalysisRule s core room v → file_said (decode s) core room ≡ v
  unfolding file_said
  rule_analysis (AnalysisRule.reading f n) = ⊎_elim (λ g. absurd (n g.0)) (λ x. rw x.said) (by_rule f)
  rule_analysis (AnalysisRule.analysed g r) = good_said g ∙ rule_said core _ room (core-good core g).distinct r

-- the verdict of reading alone
module _ (s : List ℕ) where
  -- some rule holds
  some_read : (v : Verdict) × FileRule s v
  some_read =
      ⊎_elim (λ f. (f.0, f.1.rule)) (λ g. (_, FileRule.table g.file.whole g.file.apart)) (file-rule s)

  -- what a rule says is said
  rule-read : {v : Verdict} → FileRule s v → (read_answer s).verdict ≡ v
  unfolding read_answer
  rule-read r = ⊎_elim (λ g. rw (good-read g.1.file) (sym g.0)) (λ f. rw f.said) (by_rule r)

  -- all together
  pub read_says : Reads s
  unfolding read_answer
  read_says =
      record { codes = said_exactly (λ v. rule-read) some_read; zeros = zeros_said (decode s); rows = λ tasks g. rw (good-read g) }

-- ---- the room

-- codes 0 and 12 are those that write
abbrev WriteCode : Verdict → Type 0
WriteCode v = (code_of v ≡ 0) ⊎ (code_of v ≡ 12)

-- they do
does_write : (v : Verdict) → WriteCode v → writes v ≡ true
unfolding writes
does_write v (inl e) = rw (eq-eqb (code_of v) 0 e)
does_write v (inr e) = rw e

-- no other does
pub keeps : (v : Verdict) → (code_of v ≡ 0 → ⊥) → (code_of v ≡ 12 → ⊥) → writes v ≡ false
unfolding writes
keeps v a b = rw (ne_eqb (code_of v) 0 a, ne_eqb (code_of v) 12 b)

-- a refused file has neither
refused-not : (v : Verdict) → RefusedReading v → WriteCode v → ⊥
refused-not v c (inl e) = refused-not_0 v c e
refused-not v c (inr e) = refused-not_12 v c e

module _ (v : Verdict) (rows : List Task) (room : List ℕ) (r : Analysed) (room' : List ℕ) (g : Gives v rows room r room') where
  -- the verdict is what is said
  pub said : r.verdict ≡ v
  said = ap (λ (a : Analysed). a.verdict) g.answer ∙ answered-verdict v rows

  -- the room stays
  pub stays : writes v ≡ false → (room' ≡ room) × (r.count ≡ 0)
  unfolding answered room_after
  stays f = (g.left ∙ rw f, ap (λ (a : Analysed). a.count) g.answer ∙ rw f)

  -- the bounds are written
  bounds_written : writes v ≡ true → needed rows ≤ length room → Bounds rows room r room'
  unfolding answered room_after core_bounds needed
  bounds_written t h =
      let all : room' ≡ over (core_bounds rows) room = g.left ∙ rw t in
      record {
        bounds = all;
        count = ap (λ (a : Analysed). a.count) g.answer ∙ rw t;
        size = ap length all ∙ over-length (core_bounds rows) room (omega (arith, bounds-length rows rows));
      }

module _ (s : List ℕ) (core : ℕ) (room : List ℕ) (r : Analysed) (room' : List ℕ) (a : Analyses s core room r room') where
  -- the core's verdict
  v : Verdict
  v = file_said (decode s) core (length room)

  -- a core with code 0 or 12
  core_written : WriteCode v → (tasks : List Task) × GoodFile s tasks × Bounds (on_core core tasks) room r room'
  unfolding v file_said file_rows
  core_written w =
      ⊎_elim (λ f. absurd (refused-not f.0 f.1.code (rw f.1.said at w)))
      (λ g.
      (let rows = on_core core g.tasks in
      let u = core_said core rows (length room) in
      let w' : WriteCode u = rw (good_said s core (length room) g.file) at w in
      let a' : Gives u rows room r room' = rw (good-read g.file) at a in
      let rule = said_rule core rows (length room) (core-good core g.file).distinct in
      let fits = (written_code core rows (length room) rule w').0.fits in
      (g.tasks, g.file, bounds_written u rows room r room' a' (does_write u w') fits)))
      (file-rule s)

  -- all together
  pub answer_says : AnswerSays s core room r room'
  unfolding v
  answer_says =
      let e : r.verdict ≡ v = said v _ room r room' a in
      record {
        codes = said_exactly (λ u q. e ∙ rule_analysis s core (length room) q) (some_analysis s core (length room));
        kept = λ p q. stays v _ room r room' a (keeps v (λ z. p (ap code_of e ∙ z)) (λ z. q (ap code_of e ∙ z)));
        written = λ w. core_written (subst WriteCode e w);
      }
