-- What is said of a table and of a file, by the cases that the code goes through. Assumes nothing.
use Prim.Native.Nat.{ℕ, ◌≤◌, ◌<◌}
use borrow.Author.Tests.{lt-ltb, le-ltb}
use mathlib.Core.Path.{◌≡◌, refl, sym, ap, subst, ◌∙◌}
use mathlib.Core.Bool.{false}
use mathlib.Core.List.{List, []}
use lib.ListN.{length}
use Rattle.std.specs.Prelude.{Ok, Err}
use Rattle.model.specs.Task.{Task}
use Rattle.model.specs.Bounds.{on_core}
use Rattle.table.specs.declared.Table.{Table}
use Rattle.table.specs.declared.GoodTable.{GoodTable}
use Rattle.table.specs.declared.Verdict.{Verdict}
use Rattle.table.specs.declared.Verdict.TheVariants.{NoSuchCore}
use Rattle.table.specs.Verdicts.{judged, ◌or_else◌}
use Rattle.table.specs.Memory.{tasks_of}
use Rattle.table.specs.Faults.{fault_of}
use Rattle.table.proofs.Codes.{passed, refused, good-code, or-good}
use Rattle.table.proofs.ReadingCodes.{fault-reading}
use Rattle.table.proofs.Stored.{tasks-stored}
use Rattle.fields.specs.Stepping.{Step, stop, go}
use Rattle.files.specs.Reading.{decode, Loads}
use Rattle.files.proofs.Stops.{stop_fault}
use Rattle.cores.specs.declared.Core.{Core}
use Rattle.cores.specs.Cores.{core_of, tasks_in}
use Rattle.cores.proofs.AskedRows.{tasks_in_lem}
use Rattle.analysis.specs.declared.Analysed.{Analysed}
use Rattle.analysis.specs.Analysis.{refusal, writes, room_said, core_said, Gives}
use Rattle.analysis.specs.Analysis.{file_said, file_rows, Analyses, table_said, AnalysesTable}
use Rattle.analysis.specs.Promises.{AnalysesGood}
use Rattle.analysis.proofs.Given.{reading-writes_none, gives_none, gives_same}

-- code 9 writes nothing
core-writes : (n : ℕ) → writes (NoSuchCore n) ≡ false
unfolding writes
core-writes n = refl

module _ (t : Table) (core : ℕ) (room : List ℕ) where
  -- no such core
  pub no_core_lem : 3 < core → {r : Analysed} → r ≡ refusal (NoSuchCore core) → AnalysesGood t core room r room
  unfolding core_said
  no_core_lem h e = gives_none _ (NoSuchCore core) _ room (rw (lt-ltb 3 core h)) (core-writes core) e

  -- one of the four: what its rows say
  pub some_core : core ≤ 3 → (c : Core) → c ≡ core_of (on_core core (tasks_of t)) → {r : Analysed} {room' : List ℕ}
      → Gives (room_said (tasks_in c) (length room)) (tasks_in c) room r room' → AnalysesGood t core room r room'
  unfolding core_said
  some_core h c e {r = r} {room' = room'} g =
      let own : tasks_in c ≡ on_core core (tasks_of t) = ap tasks_in e ∙ tasks_in_lem (on_core core (tasks_of t)) in
      gives_same (sym (rw (le-ltb 3 core h)))
      (subst (λ (rows : List Task). Gives (room_said rows (length room)) rows room r room') own g)

  -- the table's own fault
  pub faulty : {v : Verdict} → judged (fault_of t) ≡ Err v → {r : Analysed} → r ≡ refusal v → AnalysesTable t core room r room
  unfolding table_said ◌or_else◌
  faulty {v = v} e told =
      let w = refused (fault_of t) (sym e) in
      gives_none _ v _ room (rw w.0 (sym w.1))
      (rw w.1 (reading-writes_none (fault_of t) (record { fault = w.0; read = fault-reading t }))) told

  -- without one, what its core says
  pub faultless : judged (fault_of t) ≡ Ok tt → {r : Analysed} {room' : List ℕ} → AnalysesGood t core room r room'
      → AnalysesTable t core room r room'
  unfolding table_said
  faultless e g = gives_same (sym (or-good (fault_of t) _ (good-code (fault_of t) (passed (fault_of t) (sym e))))) g

module _ (s : List ℕ) (core : ℕ) (room : List ℕ) {r : Analysed} where
  -- a refused read
  pub unread : {v : Verdict} → Loads (decode s) (Err v) → r ≡ refusal v → Analyses s core room r room
  unfolding file_said file_rows
  unread {v = v} l told = of (decode s) refl l
    where
      of : (x : Step (List Task)) → decode s ≡ x → Loads x (Err v) → Gives (file_said x core (length room)) (file_rows x core) room r room
      of (stop u) e q =
          let same : v ≡ u = cc in
          gives_none u v [] room (sym same) (rw same (reading-writes_none u (stop_fault s u e))) told
      of (go ts n) e q = let no = q.1 in cc

  -- a read table: what its core says
  pub as_table : (good : GoodTable) {room' : List ℕ} → Loads (decode s) (Ok good) → AnalysesGood good.table core room r room'
      → Analyses s core room r room'
  unfolding file_said file_rows
  as_table good {room' = room'} l g = of (decode s) l
    where
      of : (x : Step (List Task)) → Loads x (Ok good) → Gives (file_said x core (length room)) (file_rows x core) room r room'
      of (stop u) q = cc
      of (go ts n) q =
          let same : good ≡ q.0 = (let p = q.1 in cc) in
          let own : tasks_of good.table ≡ ts = ap (λ (h : GoodTable). tasks_of h.table) same ∙ ap tasks_of q.2 ∙ tasks-stored ts in
          rw (← own) g
