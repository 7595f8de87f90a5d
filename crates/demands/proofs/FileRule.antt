-- A file is refused exactly when a rule of reading says so, and else its tasks are read. Assumes nothing.
use Prim.Native.Nat.{ℕ, ◌<◌}
use borrow.Author.Tests.{lt-ltb, le-ltb}
use mathlib.Core.Path.{◌≡◌, refl, ap, subst, ◌∙◌}
use mathlib.Core.Logic.{◌⊎◌, inl, inr, ⊎_elim}
use mathlib.Core.List.{List}
use lib.ListN.{length}
use Rattle.lists.proofs.Tests.{either}
use Rattle.model.specs.Task.{Task}
use Rattle.table.specs.declared.Verdict.{Verdict}
use Rattle.table.specs.declared.Verdict.TheVariants as C
use Rattle.table.specs.Verdicts.{code_of, good}
use Rattle.table.specs.declared.Wanted.{Wanted}
use Rattle.table.specs.Memory.{rows_of}
use Rattle.table.proofs.ReadingCodes.{RefusedReading, refused-not_0}
use Rattle.fields.specs.Stepping.{stop, go, ◌then◌, unless}
use Rattle.files.specs.Reading.{rows_at, end_at, decode}
use Rattle.fields.proofs.Taken.{stopped_not}
use Rattle.demands.specs.Reached.{Rows, Wants}
use Rattle.demands.specs.Rules.{NumberRule, ClashRule, FileRule, Whole, GoodFile}
use Rattle.demands.proofs.Reached.{rows-read, wants_read, reached}
use Rattle.demands.proofs.NumberRule.{rule_refuses, refused-rule, number_code}
use Rattle.demands.proofs.ClashRule.{rule_clashes, clashes_rule, clash-code}

-- a refused reading is not a good file
pub reading-fault : {v : Verdict} → RefusedReading v → v ≡ C.Good → ⊥
reading-fault {v} c e = refused-not_0 v c (ap code_of e)

-- a file that is refused, with its verdict
pub record Refused (s : List ℕ) (v : Verdict) : Type 0 where
  pub said : decode s ≡ stop v
  pub rule : FileRule s v
  pub code : RefusedReading v

-- or a good one
pub record Read (s : List ℕ) : Type 0 where
  pub tasks : List Task
  pub file : GoodFile s tasks

module _ {s : List ℕ} where
  -- where the rows end reading ends
  end_read : {tasks : List Task} {at : ℕ} → Rows s 0 tasks at → decode s ≡ end_at s tasks at
  unfolding rows_at ◌then◌
  end_read r = rows-read r

  -- bytes behind them are refused
  rest_refused : {tasks : List Task} {at : ℕ} → Rows s 0 tasks at → at < length s → Refused s (C.Trailing at)
  unfolding end_at good
  rest_refused {at = at} r h =
      record {
        said = end_read r ∙ rw (lt-ltb at (length s) h);
        rule = FileRule.rest r h;
        code = record { fault = refl; read = refl };
      }

  -- a wanted number is refused by its rule
  number_refused : {at : ℕ} {w : Wanted} {v : Verdict} → Wants s at w → NumberRule s w at v → Refused s v
  number_refused {at} {w} a r =
      record { said = wants_read a (rule_refuses s w at r); rule = FileRule.number a r; code = number_code s w at r }

  -- a whole file goes by its clashes
  whole_read : {tasks : List Task} (w : Whole s tasks) {v : Verdict} → ClashRule (rows_of tasks) v → decode s ≡ unless v tasks w.at
  unfolding end_at
  whole_read {tasks} w r = end_read w.rows ∙ rw (le-ltb w.at (length s) w.last, rule_clashes (rows_of tasks) r)

  -- a good file is read
  pub good-read : {tasks : List Task} (g : GoodFile s tasks) → decode s ≡ go tasks g.whole.at
  unfolding unless good
  good-read g = whole_read g.whole g.apart

  -- by the rules a file is good or refused
  whole_rule : {tasks : List Task} {v : Verdict} → Whole s tasks → ClashRule (rows_of tasks) v → ((v ≡ C.Good) × Read s) ⊎ Refused s v
  unfolding unless
  whole_rule {tasks} {v} w r =
      ⊎_elim (λ e. inl (e, record { tasks = tasks; file = record { whole = w; apart = subst (ClashRule (rows_of tasks)) e r } }))
      (λ c.
      inr
      (record {
        said = whole_read w r ∙ rw c.fault;
        rule = FileRule.table w r;
        code = c;
      }))
      (clash-code (rows_of tasks) r)

  -- whichever rule it is
  pub by_rule : {v : Verdict} → FileRule s v → ((v ≡ C.Good) × Read s) ⊎ Refused s v
  by_rule (FileRule.number a r) = inr (number_refused a r)
  by_rule (FileRule.rest r h) = inr (rest_refused r h)
  by_rule (FileRule.table w r) = whole_rule w r

-- and some rule decides
pub file-rule : (s : List ℕ) → ((v : Verdict) × Refused s v) ⊎ Read s
file-rule s =
    ⊎_elim (λ a. inl (a.v, number_refused a.wants (refused-rule s a.w a.at a.v a.refused)))
    (λ a.
    ⊎_elim (λ h. inl (_, rest_refused a.rows h))
    (λ h. whole (whole_rule (record { at = a.at; rows = a.rows; last = h }) (clashes_rule (rows_of a.tasks))))
    (either a.at (length s)))
    (reached s)
  where
    whole : {v : Verdict} → ((v ≡ C.Good) × Read s) ⊎ Refused s v → ((v : Verdict) × Refused s v) ⊎ Read s
    whole (inl g) = inr g.1
    whole {v} (inr f) = inl (v, f)

-- tasks that were read are those of a good file
pub read-good : (s : List ℕ) (tasks : List Task) (n : ℕ) → decode s ≡ go tasks n → GoodFile s tasks
read-good s tasks n e = ⊎_elim (λ f. stopped_not (decode s) f.1.said e) (λ g. of-tasks g.tasks g.file) (file-rule s)
  where
    of-tasks : (ts : List Task) → GoodFile s ts → GoodFile s tasks
    of-tasks ts g = let d = good-read g in let same : ts ≡ tasks = cc in subst (GoodFile s) same g
