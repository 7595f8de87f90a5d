-- Reading stops only at a fault: a good answer is that of tasks that were read, and its table has no fault. Assumes nothing.
use Prim.Native.Nat.{ℕ}
use mathlib.Core.Path.{◌≡◌, refl, sym, ap, ◌∙◌}
use mathlib.Core.List.{List}
use Rattle.model.specs.Task.{Task}
use Rattle.table.specs.declared.Verdict.{Verdict}
use Rattle.table.specs.Verdicts.{code_of}
use Rattle.table.specs.Memory.{tasks_of}
use Rattle.table.specs.Faults.{fault_of}
use Rattle.table.proofs.ReadingCodes.{RefusedReading, refused-not_0}
use Rattle.table.proofs.Stored.{tasks-stored}
use Rattle.table.proofs.GoodTasks.{stored-good}
use Rattle.fields.specs.Stepping.{Step, stop, go}
use Rattle.files.specs.declared.Loaded.{Loaded}
use Rattle.files.specs.Reading.{decode, loaded, read_answer}
use Rattle.files.proofs.Back.{file_back}
use Rattle.files.proofs.Carried.{stopped}

-- a refused read has a verdict of reading, which is not good
pub stop_fault : (s : List ℕ) (v : Verdict) → decode s ≡ stop v → RefusedReading v
stop_fault s v e = (stopped s v e).fault

module _ (s : List ℕ) (l : Loaded) (read : l ≡ read_answer s) where
  -- the answer is what reading came to
  held : {x : Step (List Task)} → decode s ≡ x → l ≡ loaded x
  unfolding read_answer
  held e = read ∙ ap loaded e

  -- with a fault, reading stopped there
  pub read_stopped : (code_of l.verdict ≡ 0 → ⊥) → decode s ≡ stop l.verdict
  read_stopped bad = of (decode s) refl
    where
      of : (x : Step (List Task)) → decode s ≡ x → decode s ≡ stop l.verdict
      of (stop v) e = e ∙ ap (λ (y : Loaded). stop y.verdict) (sym (held e))
      of (go ts n) e = absurd (bad (ap (λ (y : Loaded). code_of y.verdict) (held e)))

  module _ (fine : code_of l.verdict ≡ 0) where
    -- without one, the table's tasks were read
    pub read_went : (n : ℕ) × (decode s ≡ go (tasks_of l.table) n)
    read_went = of (decode s) refl
      where
        of : (x : Step (List Task)) → decode s ≡ x → (n : ℕ) × (decode s ≡ go (tasks_of l.table) n)
        of (stop v) e =
            absurd (refused-not_0 v (stop_fault s v e) (ap (λ (y : Loaded). code_of y.verdict) (sym (held e)) ∙ fine))
        of (go ts n) e =
            let own : tasks_of l.table ≡ ts = ap (λ (y : Loaded). tasks_of y.table) (held e) ∙ tasks-stored ts in
            (n, e ∙ ap (λ (us : List Task). go us n) (sym own))

    -- and it has no fault
    pub read_faultless : code_of (fault_of l.table) ≡ 0
    read_faultless =
        let good = (file_back s (tasks_of l.table) read_went.0 read_went.1).good in
        ap (λ (y : Loaded). code_of (fault_of y.table)) (held read_went.1) ∙ stored-good (tasks_of l.table) good
