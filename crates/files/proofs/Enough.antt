-- 5,124 bytes are enough to judge any file: no number that is wanted begins past offset 5,120. Assumes nothing.
use Prim.Native.Nat.{ℕ, zero, suc, ◌+◌, ◌*◌, ◌≤◌, ◌<◌}
use native.Mathlib.Omega.{arith}
use mathlib.Core.Path.{◌≡◌, refl, ap, ◌∙◌}
use mathlib.Core.List.{List, [], ◌∷◌, ◌++◌}
use lib.ListN.{length, take, replicate, length-append}
use Rattle.lists.specs.Lists.{total, each}
use Rattle.lists.proofs.Each.{each_snoc}
use Rattle.numbers.specs.Numbers.{Bytes}
use Rattle.model.specs.Task.{Task}
use Rattle.table.specs.Fields.{field, head, time, row_from}
use Rattle.table.specs.Memory.{row_of, all_times}
use Rattle.table.proofs.Heads.{good-head}
use Rattle.table.proofs.GoodTasks.{FineTasks, times_fit}
use Rattle.fields.specs.Stepping.{go, field_at, fields_at, row_by}
use Rattle.files.specs.Reading.{row_at, rows_at, end_at, decode, loaded, read_answer}
use Rattle.files.specs.Enough.{EnoughToJudge}
use Rattle.fields.proofs.Sizes.{bytes_of, bytes_one, bytes-head, bytes-times}
use Rattle.fields.proofs.Judged.{then_same, front, Long, field_same, field_end, run_end, fields_same, left_same, judged_by-front}
use Rattle.fields.proofs.Taken.{field-read, in_file, head_read}
use Rattle.files.proofs.Back.{row_in-file, rows_back}
use Rattle.files.proofs.Short.{row_short, rows_short}

module _ (s : List ℕ) (file : Long 5121 s) where
  -- the first 5,124 bytes
  abbrev z : List ℕ
  z = front 5121 s

  -- behind a row's fields there is room for its times
  times-end : (i used at : ℕ) (fields : List ℕ) (n : ℕ) → i < 64 → used ≤ 1024 → at ≤ 1 + (16 * i + 4 * used)
      → fields_at (field_at s) (head used) [] at ≡ go fields n → n + total bytes_of (replicate (row_from fields).parts time) ≤ 5121
  times-end i used at fields n few room h e =
      let room = (head_read (in_file s) used at fields n e).room in
      rw (bytes-times (row_from fields).parts) (omega (arith, run_end file (head used) at fields n e, bytes-head used))

  -- a row, the i-th with `used` times before it
  row_same : (i used at : ℕ) → i < 64 → used ≤ 1024 → at ≤ 1 + (16 * i + 4 * used) → row_at used s at ≡ row_at used z at
  unfolding row_at row_by
  row_same i used at few room h =
      then_same (fields_at (field_at s) (head used) [] at) (fields_at (field_at z) (head used) [] at) _ _
      (fields_same file (head used) [] at (rw (bytes-head used) (omega arith)))
      (λ fields n e. then_same (fields_at (field_at s) (replicate (row_from fields).parts time) [] n) _ _ _
      (fields_same file _ [] n (times-end i used at fields n few room h e))
      (λ times m f. refl))

  -- where a row ends, and how many times there are then
  row-end : (used at : ℕ) (t : Task) (n : ℕ) → row_at used s at ≡ go t n
      → (n ≤ at + (16 + 4 * length t.times)) × (used + length t.times ≤ 1024)
  row-end used at t n e =
      let r = row_in-file s used at t n e in
      (omega (arith, (r.bytes file.bytes).past, row_short used t r.fine), (good-head used (row_of t) r.fine.fields).room)

  -- rows one after another
  rows_same : (k : ℕ) (done : List Task) (at : ℕ) → length done + k ≤ 64 → length (all_times done) ≤ 1024
      → at ≤ 1 + (16 * length done + 4 * length (all_times done)) → rows_at k done s at ≡ rows_at k done z at
  unfolding rows_at
  rows_same zero done at few room h = refl
  rows_same (suc k) done at few room h =
      then_same (row_at (length (all_times done)) s at) _ _ _ (row_same (length done) (length (all_times done)) at (omega arith) room h)
      (λ task n e.
      let own = row-end (length (all_times done)) at task n e in
      let times = ap length (each_snoc _ done task) ∙ length-append (all_times done) task.times in
      let rows = length-append done (task ∷ []) in
      rows_same k (done ++ (task ∷ [])) n (omega (arith, rows)) (omega (arith, times, own.1)) (omega (arith, times, rows, own.0)))

  -- where they all end
  rows_end : (k at : ℕ) (tasks : List Task) (n : ℕ) → k ≤ 64 → at ≤ 1 → rows_at k [] s at ≡ go tasks n → n ≤ 5121
  rows_end k at tasks n few first e =
      let r = rows_back s k [] at tasks n e in
      let fine : FineTasks 0 r.tail = unfold each in r.fine in
      omega (arith, r.count, (r.bytes file.bytes).past, rows_short 0 r.tail fine, times_fit 0 r.tail (omega arith) fine)

  -- bytes are left after them, in the file as in its front
  end_same : (tasks : List Task) (at : ℕ) → at ≤ 5121 → end_at s tasks at ≡ end_at z tasks at
  unfolding end_at
  end_same tasks at h = rw (left_same file at h)

  -- the whole file
  file_same : decode s ≡ decode z
  unfolding decode
  file_same =
      then_same (field_at s (field 0 64) 0) _ _ _ (field_same file (field 0 64) 0 (omega arith))
      (λ count at e.
      let few : count ≤ 64 = (field-read s (field 0 64) 0 count at e).fine.most in
      let none : length (all_times []) ≡ 0 = unfold each in refl in
      let first : at ≤ 1 = omega (arith, field_end file (field 0 64) 0 count at e, bytes_one (field 0 64) (omega arith)) in
      then_same (rows_at count [] s at) _ _ _ (rows_same count [] at (omega arith) (omega arith) (omega arith))
      (λ tasks n f. end_same tasks n (rows_end count at tasks n few first f)))

-- a longer file decodes as its front does
pub decodes_alike : (s : List ℕ) → Bytes s → decode (take 5124 s) ≡ decode s
decodes_alike = judged_by-front 5121 decode file_same

-- so it is judged by its front
pub enough_to_judge : EnoughToJudge
unfolding read_answer
enough_to_judge s bs = ap loaded (decodes_alike s bs)
