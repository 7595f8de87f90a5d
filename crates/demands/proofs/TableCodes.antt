-- Writing and analysing a table in memory give each code exactly when its rule says. From the rules of tables and of cores.
use Prim.Native.Nat.{ℕ}
use borrow.Author.Tests.{lt-ltb, le-ltb}
use mathlib.Core.Path.{◌≡◌, sym, ap, subst, ◌∙◌}
use mathlib.Core.Logic.{◌⊎◌, inl, inr, ⊎_elim}
use mathlib.Core.Bool.{true, false}
use mathlib.Core.List.{List}
use lib.ListN.{length}
use Rattle.lists.specs.Lists.{pick}
use Rattle.lists.proofs.Tests.{either}
use Rattle.model.specs.Rows.{Distinct}
use Rattle.model.specs.Bounds.{on_core}
use Rattle.table.specs.declared.Table.{Table}
use Rattle.table.specs.declared.Verdict.{Verdict}
use Rattle.table.specs.declared.Verdict.TheVariants as C
use Rattle.table.specs.Verdicts.{code_of, good, ◌or_else◌}
use Rattle.table.specs.Memory.{tasks_of}
use Rattle.table.specs.Faults.{fault_of}
use Rattle.table.proofs.ReadingCodes.{RefusedReading, refused-not_0, refused-not_12}
use Rattle.table.proofs.Codes.{is_good, is_fault, or-good}
use Rattle.table.proofs.GoodTasks.{tasks-good}
use Rattle.table.proofs.GoodCore.{good-core}
use Rattle.table.specs.declared.Written.{Written}
use Rattle.table.specs.Written.{verdict_on, answer_on, bytes_left, Writes}
use Rattle.files.specs.Writing.{file_of}
use Rattle.files.specs.RoundTrips.{InMemory}
use Rattle.files.proofs.Trip.{file-here}
use Rattle.analysis.specs.declared.Analysed.{Analysed}
use Rattle.analysis.specs.Analysis.{file_said, file_rows, table_said, AnalysesTable}
use Rattle.demands.specs.Tables.{TableRule, WriteRule, MemoryRule, WriteSays, AsFile, Tables}
use Rattle.demands.proofs.CoreRule.{rule_said, said_rule}
use Rattle.demands.proofs.Answer.{keeps, said, stays}
use Rattle.demands.proofs.Said.{said_exactly}
use Rattle.demands.proofs.FileRule.{reading-fault, read-good}
use Rattle.demands.proofs.Tables.{fault_first, rule-fault, fault-rule, table-code}

-- what comes after a table's own faults
module _ (t : Table) (next : Verdict) where
  -- a fault is said
  fault_said : {v : Verdict} → TableRule t v → (v ≡ C.Good → ⊥) → fault_of t or_else next ≡ v
  fault_said {v} r n = rw (rule-fault t r) (⊎_elim (λ e. absurd (n e)) (λ c. fault_first v next (refused-not_0 v c)) (table-code t r))

  -- without one the next decides
  next_said : TableRule t C.Good → fault_of t or_else next ≡ next
  next_said r = or-good (fault_of t) next (ap code_of (rule-fault t r))

-- a table has a fault
record FaultyTable (t : Table) : Type 0 where
  v : Verdict
  rule : TableRule t v
  code : RefusedReading v

-- or is good
fault-or-good : (t : Table) → FaultyTable t ⊎ TableRule t C.Good
fault-or-good t =
    ⊎_elim (λ e. inr (subst (TableRule t) e (fault-rule t))) (λ c. inl (record { v = fault_of t; rule = fault-rule t; code = c }))
    (table-code t (fault-rule t))

-- ---- writing

module _ (t : Table) (new : List ℕ) (room : ℕ) where
  -- what a rule says is said
  rule-write : {v : Verdict} → WriteRule t new room v → verdict_on (fault_of t) new room ≡ v
  unfolding verdict_on
  rule-write (WriteRule.fault r n) = fault_said t _ r n
  rule-write (WriteRule.short r h) = next_said t _ r ∙ rw (lt-ltb room (length new) h)
  rule-write (WriteRule.good r h) = next_said t _ r ∙ rw (le-ltb room (length new) h)

  -- some rule holds
  some_write : (v : Verdict) × WriteRule t new room v
  some_write =
      ⊎_elim (λ f. (f.v, WriteRule.fault f.rule (reading-fault f.code)))
      (λ g. ⊎_elim (λ h. (_, WriteRule.short g h)) (λ h. (_, WriteRule.good g h)) (either room (length new)))
      (fault-or-good t)

-- ---- analysis of a table in memory

module _ (t : Table) (m : InMemory t) (core room : ℕ) where
  -- no priority stands twice on a core
  distinct : TableRule t C.Good → Distinct (on_core core (tasks_of t))
  distinct r = (good-core t m.rows m.times (ap code_of (rule-fault t r)) core).distinct

  -- what a rule says is said
  rule-table : {v : Verdict} → MemoryRule t core room v → table_said t core room ≡ v
  unfolding table_said
  rule-table (MemoryRule.fault r n) = fault_said t _ r n
  rule-table (MemoryRule.analysed r c) = next_said t _ r ∙ rule_said core _ room (distinct r) c

  -- some rule holds
  some_table : (v : Verdict) × MemoryRule t core room v
  some_table =
      ⊎_elim (λ f. (f.v, MemoryRule.fault f.rule (reading-fault f.code)))
      (λ g. (_, MemoryRule.analysed g (said_rule core (on_core core (tasks_of t)) room (distinct g))))
      (fault-or-good t)

-- ---- what is left

module _ (t : Table) (new out : List ℕ) (r : Written) (out' : List ℕ) (w : Writes (fault_of t) new out r out') where
  -- what is said of writing
  write_verdict_lem : Verdict
  write_verdict_lem = verdict_on (fault_of t) new (length out)

  -- the verdict is that
  write_said : r.verdict ≡ write_verdict_lem
  unfolding answer_on write_verdict_lem
  write_said = ap (λ (x : Written). x.verdict) w.answer

  -- how many bytes
  write-count : r.count ≡ pick (good write_verdict_lem) (length new) 0
  unfolding answer_on write_verdict_lem
  write-count = ap (λ (x : Written). x.count) w.answer

  -- what writing says and leaves, whatever the bytes are
  pub write_says : WriteSays t new out r out'
  unfolding bytes_left write_verdict_lem
  write_says =
      let e = write_said in
      record {
        codes = said_exactly (λ v q. e ∙ rule-write t new (length out) q) (some_write t new (length out));
        kept =
            λ n.
            (let f : good write_verdict_lem ≡ false = is_fault _ (λ z. n (ap code_of e ∙ z)) in
            (w.bytes ∙ rw f, write-count ∙ rw f));
        written =
            λ z.
            (let g : good write_verdict_lem ≡ true = is_good _ (ap code_of (sym e) ∙ z) in
            (w.bytes ∙ rw g, write-count ∙ rw g));
      }

-- a table with a fault of its own: neither 0 nor 12 is said
fault_keeps : (t : Table) (core : ℕ) (room : List ℕ) (r : Analysed) (room' : List ℕ) → AnalysesTable t core room r room'
    → (TableRule t C.Good → ⊥) → (room' ≡ room) × (r.count ≡ 0)
unfolding table_said
fault_keeps t core room r room' a n =
    ⊎_elim
    (λ f.
    (let v = table_said t core (length room) in
    let e : v ≡ f.v = fault_said t _ f.rule (reading-fault f.code) in
    let same : code_of f.v ≡ code_of v = ap code_of (sym e) in
    stays v _ room r room' a (keeps v (λ z. refused-not_0 f.v f.code (same ∙ z)) (λ z. refused-not_12 f.v f.code (same ∙ z)))))
    (λ g. absurd (n g)) (fault-or-good t)

-- a good table is analysed as its file
as_file_lem : (t : Table) → InMemory t → TableRule t C.Good → AsFile t
unfolding file_of table_said file_said file_rows
as_file_lem t m g =
    let good = tasks-good t m.rows m.times (ap code_of (rule-fault t g)) in
    let read = file-here (tasks_of t) good in
    record {
      file = read-good (file_of t) (tasks_of t) _ read;
      same = λ core room r room'. (λ a. rw read (rw (next_said t _ g) at a), λ a. rw (next_said t _ g) (rw read at a));
    }

-- all together
pub tables : Tables
tables =
    record {
      writing = λ t. write_says t (file_of t);
      codes =
          λ t m core room r room' a.
          said_exactly (λ v q. said _ _ room r room' a ∙ rule-table t m core (length room) q) (some_table t m core (length room));
      kept = fault_keeps;
      good = as_file_lem;
    }
