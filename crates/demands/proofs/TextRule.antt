-- A text is refused exactly when a rule of reading says so, and else its tasks are read. Assumes nothing.
use Prim.Native.Nat.{ℕ}
use mathlib.Core.Path.{◌≡◌, ◌∙◌}
use mathlib.Core.Logic.{⊎_elim}
use mathlib.Core.List.{List}
use Rattle.model.specs.Task.{Task}
use Rattle.table.specs.declared.Verdict.{Verdict}
use Rattle.table.specs.Verdicts.{good}
use Rattle.table.specs.Memory.{rows_of}
use Rattle.table.specs.Clash.{clash_of}
use Rattle.fields.specs.Stepping.{go, unless}
use Rattle.files.specs.Reading.{loaded}
use Rattle.comma.specs.Reading.{decode_text, read_text}
use Rattle.demands.specs.Rules.{ClashRule}
use Rattle.demands.specs.Texts.{TextRule, GoodText, ReadsText}
use Rattle.demands.proofs.Said.{said_exactly, zeros_said}
use Rattle.demands.proofs.ClashRule.{rule_clashes, clashes_rule, clash-code}
use Rattle.demands.proofs.FieldRule.{rule_refuses, refused-rule}
use Rattle.demands.proofs.TextReached.{wants_read, line65_read, whole_read, wants_inside, Reached, reached}

-- 4, 5 and 6 are said where their rules hold, and good where none does
clash_said : (tasks : List Task) (at : ℕ) {v : Verdict} → ClashRule (rows_of tasks) v
    → (loaded (unless (clash_of (rows_of tasks)) tasks at)).verdict ≡ v
unfolding unless good
clash_said tasks at {v} r =
    rw (rule_clashes (rows_of tasks) r) (⊎_elim (λ e. rw e) (λ c. rw c.fault) (clash-code (rows_of tasks) r))

module _ (s : List ℕ) where
  -- what a rule says is said
  rule-text : {v : Verdict} → TextRule s v → (read_text s).verdict ≡ v
  unfolding read_text
  rule-text (TextRule.field {at} {last} {w} a r) = rw (wants_read a (rule_refuses s last w at (wants_inside a) r))
  rule-text (TextRule.line65 l e h) = rw (line65_read l e h)
  rule-text (TextRule.table {tasks} w r) = rw (whole_read w) (clash_said tasks w.at r)

  -- some rule holds
  some_text : Reached s → (v : Verdict) × TextRule s v
  some_text (Reached.at_field {at} {last} {w} {v} a e) = (v, TextRule.field a (refused-rule s last w at (wants_inside a) v e))
  some_text (Reached.at_line65 l e h) = (_, TextRule.line65 l e h)
  some_text (Reached.at_end {tasks} w) = (_, TextRule.table w (clashes_rule (rows_of tasks)))

  -- a good text is read
  pub good-read : {tasks : List Task} (g : GoodText s tasks) → decode_text s ≡ go tasks g.whole.at
  unfolding unless good
  good-read {tasks} g = whole_read g.whole ∙ rw (rule_clashes (rows_of tasks) g.apart)

  -- all together
  pub reads_text : ReadsText s
  unfolding read_text
  reads_text =
      record {
        codes = said_exactly (λ v. rule-text) (some_text (reached s));
        zeros = zeros_said (decode_text s);
        rows = λ tasks g. rw (good-read g);
      }
