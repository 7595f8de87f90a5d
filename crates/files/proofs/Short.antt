-- A good file has at most 5,121 bytes. Assumes nothing.
use Prim.Native.Nat.{ℕ, ◌+◌, ◌*◌, ◌≤◌}
use native.Mathlib.Omega.{arith}
use mathlib.Core.Path.{◌≡◌, refl, ap}
use mathlib.Core.List.{List, [], ◌∷◌}
use lib.ListN.{length, length-append}
use Rattle.lists.specs.Lists.{each}
use Rattle.numbers.specs.Numbers.{encode, encode_all}
use Rattle.numbers.proofs.Laws.{length-one}
use Rattle.model.specs.Task.{Task}
use Rattle.table.specs.Verdicts.{code_of}
use Rattle.table.specs.Fields.{head, fields_of}
use Rattle.table.specs.Memory.{row_of, all_times, tasks_of}
use Rattle.table.proofs.GoodTasks.{FineTask, FineTasks, GoodTasks, times_fit}
use Rattle.files.specs.Reading.{read_answer}
use Rattle.files.specs.Writing.{encode_file}
use Rattle.files.specs.RoundTrips.{GoodFileIsShort}
use Rattle.files.proofs.RowBytes.{row_bytes, rows_bytes, row-parts, rows_none, rows_more, file-parts}
use Rattle.fields.proofs.Sizes.{short, bytes-head, bytes-times}
use Rattle.files.proofs.Stops.{read_went}
use Rattle.files.proofs.Back.{file_back}

-- a row: 16 bytes, and four for each time
pub row_short : (used : ℕ) (t : Task) → FineTask used t → length (row_bytes t) ≤ 16 + 4 * length t.times
row_short used t f =
    let fields : length (encode_all (fields_of (row_of t))) ≤ 16 = rw (bytes-head used) at (short (head used) _ f.fields) in
    let times : length (encode_all t.times) ≤ 4 * length t.times
    = rw (bytes-times (length t.times)) at (short _ t.times f.times) in
    rw (row-parts t, length-append (encode_all (fields_of (row_of t))) (encode_all t.times)) (omega arith)

-- rows one after another
pub rows_short : (used : ℕ) (ts : List Task) → FineTasks used ts → length (rows_bytes ts) ≤ 16 * length ts + 4 * length (all_times ts)
unfolding FineTasks each
rows_short used [] f = rw rows_none (omega arith)
rows_short used (t ∷ ts) f =
    let first = row_short used t f.0 in
    let others = rows_short (used + length t.times) ts f.1 in
    rw (rows_more t ts, length-append (row_bytes t) (rows_bytes ts), length-append t.times (all_times ts)) (omega arith)

-- at most 64 rows and 1,024 times
pub file_short : (ts : List Task) → GoodTasks ts → length (encode_file ts) ≤ 5121
file_short ts g =
    let count : length (encode (length ts)) ≡ 1 = length-one (length ts) (omega (arith, g.few)) in
    let times : 0 + length (all_times ts) ≤ 1024 = times_fit 0 ts (omega arith) g.fine in
    rw (file-parts ts) (omega (arith, length-append (encode (length ts)) (rows_bytes ts), rows_short 0 ts g.fine, g.few))

-- a good file is that of good tasks
pub good-file_is_short : GoodFileIsShort
good-file_is_short s bs e =
    let went = read_went s (read_answer s) refl (ap code_of e) in
    let file = file_back s _ went.0 went.1 in
    omega (arith, ap length (file.bytes bs), file_short (tasks_of (read_answer s).table) file.good)
