-- Reading a written table gives its rows and times back, and writing a read file gives its bytes. Assumes nothing.
use Prim.Native.Nat.{ℕ, ◌≤◌}
use mathlib.Core.Path.{◌≡◌, sym, ap, ◌∙◌}
use mathlib.Core.List.{List}
use lib.ListN.{length, take}
use Rattle.lists.specs.Lists.{over}
use Rattle.lists.proofs.Overs.{take-over}
use Rattle.model.specs.Task.{Task}
use Rattle.table.specs.declared.Table.{Table}
use Rattle.table.specs.declared.Verdict.{Verdict}
use Rattle.table.specs.declared.Verdict.TheVariants.{Good}
use Rattle.table.specs.declared.Written.{Written}
use Rattle.table.specs.Verdicts.{code_of}
use Rattle.table.specs.Memory.{stored, tasks_of}
use Rattle.table.specs.Faults.{fault_of}
use Rattle.table.specs.Written.{Writes}
use Rattle.table.proofs.Writes.{writes-all, wrote_fine, wrote_count, wrote_bytes, answers_agree, bytes_agree}
use Rattle.table.proofs.Stored.{tasks-stored}
use Rattle.table.proofs.GoodTasks.{GoodTasks, tasks-good, stored-good, stored_again}
use Rattle.files.specs.declared.Loaded.{Loaded}
use Rattle.fields.specs.Stepping.{go}
use Rattle.files.specs.Reading.{decode, loaded, read_answer}
use Rattle.files.specs.Writing.{encode_file, file_of}
use Rattle.files.specs.RoundTrips.{cleared, InMemory, WrittenIsRead, ReadIsWritten}
use Rattle.files.proofs.Trip.{file-here}
use Rattle.files.proofs.Stops.{read_went}
use Rattle.files.proofs.Back.{file_back}

-- ---- whatever is written

-- what was written stands in front
pub written_front : (fault : Verdict) (new out : List ℕ) (r : Written) (out' : List ℕ) → Writes fault new out r out' → r.verdict ≡ Good
    → take r.count out' ≡ new
written_front fault new out r out' w e =
    rw (wrote_count fault new out r out' w e, wrote_bytes fault new out r out' w e) (take-over new out)

-- good tasks that are stored, and written as the bytes s: all of them and no more
pub stored_written : (s new out : List ℕ) (r : Written) (out' : List ℕ) (ts : List Task) → new ≡ s → GoodTasks ts
    → Writes (fault_of (stored ts)) new out r out' → length s ≤ length out
    → (r ≡ record { verdict = Good; count = length s }) × (out' ≡ over s out)
stored_written s new out r out' ts same g w room =
    let all = writes-all _ new out (stored-good ts g) (length s) (ap length same) room (over s out) (rw same) in
    (answers_agree _ _ out r out' w _ _ all, bytes_agree _ _ out r out' w _ _ all)

-- ---- files

-- the answer to tasks that were read
pub read-tasks : (s : List ℕ) (ts : List Task) (n : ℕ) → decode s ≡ go ts n → read_answer s ≡ record { verdict = Good; table = stored ts }
unfolding read_answer
read-tasks s ts n e = ap loaded e

-- the file of a table without a fault
pub file-read : (t : Table) → InMemory t → code_of (fault_of t) ≡ 0 → read_answer (file_of t) ≡ record { verdict = Good; table = cleared t }
unfolding file_of
file-read t m e =
    read-tasks (encode_file (tasks_of t)) (tasks_of t) _ (file-here (tasks_of t) (tasks-good t m.rows m.times e))
    ∙ rw (stored_again t m.rows m.times e)

-- reading a written table gives its rows and times back
pub written_is_read_lem : WrittenIsRead
written_is_read_lem t m out r out' w e =
    rw (written_front (fault_of t) (file_of t) out r out' w e) (file-read t m (wrote_fine (fault_of t) (file_of t) out r out' w e))

-- the file of tasks that were read
stored-file : (s : List ℕ) (ts : List Task) → s ≡ encode_file ts → file_of (stored ts) ≡ s
unfolding file_of
stored-file s ts e = rw (tasks-stored ts) (sym e)

-- writing a read file gives its bytes, all of them and no more
pub read_is_written_lem : ReadIsWritten
read_is_written_lem s bs l same e out r out' w room =
    let ts = tasks_of l.table in
    let went = read_went s l same (ap code_of e) in
    let file = file_back s ts went.0 went.1 in
    let table : l.table ≡ stored ts = ap (λ (x : Loaded). x.table) (same ∙ read-tasks s ts went.0 went.1) in
    let bytes : file_of (stored ts) ≡ s = stored-file s ts (file.bytes bs) in
    stored_written s _ out r out' ts bytes file.good (rw table at w) room
