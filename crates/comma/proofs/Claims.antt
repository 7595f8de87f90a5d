-- Texts and table files agree, the round trips of text, and how long a good text is. Assumes nothing.
use Prim.Native.Nat.{ℕ, ◌+◌, ◌≤◌}
use native.Mathlib.Omega.{arith}
use mathlib.Core.Path.{◌≡◌, refl, sym, ap, ◌∙◌}
use mathlib.Core.List.{List, []}
use lib.ListN.{length, take}
use Rattle.lists.proofs.Tests.{by_test}
use Rattle.model.specs.Task.{Task}
use Rattle.table.specs.declared.Table.{Table}
use Rattle.table.specs.declared.Verdict.{Verdict}
use Rattle.table.specs.declared.Verdict.TheVariants.{Good}
use Rattle.table.specs.Verdicts.{code_of, good, ◌or_else◌}
use Rattle.table.specs.Memory.{all_times, stored, tasks_of, rows_of}
use Rattle.table.specs.Clash.{clash_after, broken, clash_of}
use Rattle.table.specs.Faults.{fault_of}
use Rattle.table.specs.declared.Written.{Written}
use Rattle.table.specs.Written.{Writes}
use Rattle.table.proofs.Writes.{wrote_fine}
use Rattle.table.proofs.Stored.{tasks-stored, same_tasks, same_fault}
use Rattle.table.proofs.GoodTasks.{GoodTasks, tasks-good, times_fit}
use Rattle.fields.specs.Stepping.{◌then◌, unless}
use Rattle.files.specs.declared.Loaded.{Loaded}
use Rattle.files.specs.Reading.{loaded, read_answer}
use Rattle.files.specs.Writing.{encode_file, file_of, Wrote}
use Rattle.files.specs.RoundTrips.{cleared, InMemory}
use Rattle.files.proofs.Trip.{file_judged, file-here}
use Rattle.files.proofs.Stops.{read_went}
use Rattle.files.proofs.Back.{file_back}
use Rattle.files.proofs.Short.{file_short}
use Rattle.files.proofs.RoundTrips.{written_front, stored_written, read-tasks, file-read}
use Rattle.comma.specs.Reading.{lines_at, decode_text, read_text}
use Rattle.comma.specs.Writing.{lines_of, table_lines, WroteText}
use Rattle.comma.specs.Claims.{ReadAsFile, WrittenTextIsRead, EmptyTextHasNoRows, ReadTextIsWritten, GoodTextIsShort}
use Rattle.comma.specs.Claims.{ImportIsRead, ExportIsRead, UnusedHasNoSayInText}
use Rattle.comma.proofs.LinesBack.{lines_back, text_back}
use Rattle.comma.proofs.LinesHere.{text-here}
use Rattle.comma.proofs.Sizes.{text_short}
use Rattle.comma.proofs.ReadSizes.{text-end}
use Rattle.comma.proofs.GoodTexts.{good_text_lem}

-- ---- texts and files

-- an answer does not tell where reading ended
same_answer : (v : Verdict) (ts : List Task) (m n : ℕ) → loaded (unless v ts m) ≡ loaded (unless v ts n)
unfolding unless
same_answer v ts m n = by_test (good v) (λ e. rw e) (λ e. rw e)

-- a text is answered as the table file with the same rows
pub read_as_file : ReadAsFile
unfolding read_text read_answer decode_text ◌then◌
read_as_file s ts n e =
    let back = text_back s ts n e in
    rw (e, file_judged ts back.few back.fine) (same_answer (clash_of (rows_of ts)) ts n (length (encode_file ts)))

-- ---- what is written is read

-- the text of a table without a fault
text-read : (t : Table) → InMemory t → code_of (fault_of t) ≡ 0 → read_text (table_lines t) ≡ record { verdict = Good; table = cleared t }
unfolding table_lines file_of
text-read t m e =
    let g = tasks-good t m.rows m.times e in
    let lines = text-here (tasks_of t) g.few g.fine in
    read_as_file (lines_of (tasks_of t)) (tasks_of t) _ lines ∙ file-read t m e

-- what is written, read back, gives the same rows and times
pub written_text_is_read : WrittenTextIsRead
written_text_is_read t m out r out' w e =
    rw (written_front (fault_of t) (table_lines t) out r out' w e) (text-read t m (wrote_fine (fault_of t) (table_lines t) out r out' w e))

-- no rows do not clash
none_clash : clash_of [] ≡ Good
unfolding clash_of broken clash_after ◌or_else◌ good
none_clash = refl

-- an empty text has no rows
pub empty_text_has_no_rows : EmptyTextHasNoRows
unfolding read_text decode_text lines_at ◌then◌ unless good
empty_text_has_no_rows = rw none_clash

-- ---- what was read is written

-- the text of rows that were read
stored-text : (s : List ℕ) (ts : List Task) → s ≡ lines_of ts → table_lines (stored ts) ≡ s
unfolding table_lines
stored-text s ts e = rw (tasks-stored ts) (sym e)

-- a text without quotes whose lines are ended, read well and written, gives its bytes
pub read_text_is_written : ReadTextIsWritten
read_text_is_written s plain l same e out r out' w room =
    let read = good_text_lem s (sym (ap (λ (x : Loaded). x.verdict) same) ∙ e) in
    let bytes = stored-text s read.tasks ((text_back s read.tasks read.next read.lines).bytes plain) in
    let table : l.table ≡ stored read.tasks = ap (λ (x : Loaded). x.table) (same ∙ read.answer) in
    stored_written s _ out r out' read.tasks bytes read.good (rw table at w) room

-- ---- import and export

-- good tasks that are stored and written as these bytes: they stand in front
front_written : (new bytes out : List ℕ) (r : Written) (out' : List ℕ) (ts : List Task) → new ≡ bytes → GoodTasks ts
    → Writes (fault_of (stored ts)) new out r out' → length bytes ≤ length out → (r.verdict ≡ Good) × (take r.count out' ≡ bytes)
front_written new bytes out r out' ts same g w room =
    let all = stored_written bytes new out r out' ts same g w room in
    let good : r.verdict ≡ Good = ap (λ (x : Written). x.verdict) all.0 in
    (good, written_front _ new out r out' w good ∙ same)

-- the file of a good text
pub import_is_read : ImportIsRead
unfolding file_of
import_is_read s e out r out' w room =
    let read = good_text_lem s e in
    let ts = read.tasks in
    let file : file_of (stored ts) ≡ encode_file ts = ap encode_file (tasks-stored ts) in
    let table : Wrote (stored ts) out r out' = rw read.answer at w in
    let front = front_written _ (encode_file ts) out r out' ts file read.good table (omega (arith, file_short ts read.good)) in
    (front.0, rw front.1 (sym (read_as_file s ts read.next read.lines)))

-- the text of a good file
pub export_is_read : ExportIsRead
export_is_read s e out r out' w room =
    let ts = tasks_of (read_answer s).table in
    let went = read_went s (read_answer s) refl (ap code_of e) in
    let good = (file_back s ts went.0 went.1).good in
    let answer : read_answer s ≡ record { verdict = Good; table = stored ts } = read-tasks s ts went.0 went.1 in
    let table : WroteText (stored ts) out r out' = rw answer at w in
    let bytes : table_lines (stored ts) ≡ lines_of ts = stored-text (lines_of ts) ts refl in
    let front = front_written _ (lines_of ts) out r out' ts bytes good table (omega (arith, text_short ts good)) in
    let lines = text-here ts good.few good.fine in
    let same : read_answer (encode_file ts) ≡ read_answer s = read-tasks (encode_file ts) ts _ (file-here ts good) ∙ sym answer in
    (front.0, rw front.1 (read_as_file (lines_of ts) ts _ lines ∙ same))

-- ---- how long it is

-- at most 64 rows and 1,024 times
pub good_text_is_short : GoodTextIsShort
good_text_is_short s e =
    let read = good_text_lem s e in
    let times : 0 + length (all_times read.tasks) ≤ 1024 = times_fit 0 read.tasks (omega arith) read.good.fine in
    let ended = (lines_back s 64 [] 0 read.tasks read.next read.lines).ended in
    omega (arith, text-end s read.tasks read.next read.lines, ended, read.good.few)

-- ---- what has no say

-- what stands in the unused rows and times
pub unused_has_no_say_in_text : UnusedHasNoSayInText
unused_has_no_say_in_text t u same out =
    let fault = same_fault t u same.count same.rows same.times in
    let text : table_lines t ≡ table_lines u = unfold table_lines in ap lines_of (same_tasks t u same.count same.rows same.times) in
    (rw (fault, text), rw (fault, text))
