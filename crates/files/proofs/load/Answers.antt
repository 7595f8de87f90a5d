-- `files::load` meets its contract: the row count, the rows, the end, and then the rules over the whole table. Assumes nothing.
use borrow.Author.Rules.{rules}
use Rattle.table.proofs.Rows.{length_mapped}
use Prim.Native.Nat.{ℕ, ◌≤◌, ◌<◌}
use borrow.Author.Tests.{lt-ltb, le-ltb}
use mathlib.Core.Path.{◌≡◌, refl}
use mathlib.Core.List.{List, []}
use lib.ListN.{length}
use Rattle.std.specs.Prelude.{Ok, Err}
use Rattle.std.proofs.lemmas.Result.{err_from_is_err_and}
use Rattle.model.specs.Task.{Task}
use Rattle.numbers.specs.declared.Read.{Read}
use Rattle.table.specs.declared.Table.{Table}
use Rattle.table.specs.declared.Verdict.{Verdict}
use Rattle.table.specs.declared.Verdict.TheVariants.{Trailing}
use Rattle.table.specs.Verdicts.{code_of, judged}
use Rattle.table.specs.Fields.{field}
use Rattle.table.specs.Memory.{stored, used_rows}
use Rattle.table.specs.Clash.{clash_of}
use Rattle.table.specs.Faults.{fault_of}
use Rattle.table.proofs.Stored.{stored-rows}
use Rattle.table.proofs.GoodTasks.{stored-good}
use Rattle.fields.specs.Stepping.{Step, stop, go, ◌then◌, field_at}
use Rattle.fields.proofs.Steps.{got_read, refused-read, unless_refused, unless_passed}
use Rattle.fields.proofs.Taken.{field-read}
use Rattle.files.specs.Reading.{rows_at, end_at, decode}
use Rattle.files.specs.Promises.{as_stored}
use Rattle.files.proofs.Back.{file_back}
use Rattle.files.proofs.load.Goals.{In_ok-count, In_ok-rows, In_ok-check_clashes}
use Rattle.files.proofs.load.Goals as goal

-- rows that are refused
rows_refused : (x : Step (List Task)) {v : Verdict} → Err v ≡ as_stored x → x ≡ stop v
rows_refused (stop w) e = cc
rows_refused (go tasks n) e = absurd cc

-- and rows that are stored
rows_stored : (x : Step (List Task)) {r : Read Table} → Ok r ≡ as_stored x
    → (tasks : List Task) × (x ≡ go tasks r.next) × (r.value ≡ stored tasks)
rows_stored (stop v) e = absurd cc
rows_stored (go tasks n) e = (tasks, cc, cc)

module _ (s : List ℕ) where
  -- the row count is refused
  count_stops : {v : Verdict} → field_at s (field 0 64) 0 ≡ stop v → decode s ≡ stop v
  unfolding decode ◌then◌
  count_stops e = rw e

  module _ {n at : ℕ} (count : field_at s (field 0 64) 0 ≡ go n at) where
    -- the rows are refused
    rows_stop : {v : Verdict} → rows_at n [] s at ≡ stop v → decode s ≡ stop v
    unfolding decode ◌then◌
    rows_stop e = rw (count, e)

    module _ {tasks : List Task} {p : ℕ} (rows : rows_at n [] s at ≡ go tasks p) where
      -- they are read, and bytes are left
      trails : p < length s → decode s ≡ stop (Trailing p)
      unfolding decode ◌then◌ end_at
      trails h = rw (count, rows, lt-ltb p (length s) h)

      module _ (ended : length s ≤ p) {t : Table} (same : t ≡ stored tasks) where
        -- rows clash
        clashes : {v : Verdict} → Err v ≡ judged (clash_of (used_rows t)) → decode s ≡ stop v
        unfolding decode ◌then◌ end_at
        clashes e = rw (count, rows, le-ltb p (length s) ended) (unless_refused _ tasks p (rw (same, stored-rows) at e))

        -- none do
        goes : {u : Unit {0}} → Ok u ≡ judged (clash_of (used_rows t)) → decode s ≡ go tasks p
        unfolding decode ◌then◌ end_at
        goes e = rw (count, rows, le-ltb p (length s) ended) (unless_passed _ tasks p (rw (same, stored-rows) at e))

        -- so nothing stands against the table
        faultless : {u : Unit {0}} → Ok u ≡ judged (clash_of (used_rows t)) → code_of (fault_of t) ≡ 0
        faultless e = rw same (stored-good tasks (file_back s tasks p (goes e)).good)

-- the row count, once it is read
count_read : (c : In_ok-count) → field_at c.args.bytes.now (field 0 64) 0 ≡ go c.in_ok-count.count.value c.in_ok-count.count.next
count_read c = got_read _ _ c.in_ok-count.ensures

-- the tasks whose rows were read
read : (c : In_ok-rows) → let n = c.in_ok-count.count in let r = c.in_ok-rows.rows in
    (tasks : List Task) × (rows_at n.value [] c.args.bytes.now n.next ≡ go tasks r.next) × (r.value ≡ stored tasks)
read c = rows_stored _ c.in_ok-rows.ensures

pub returns-in_err-count : goal.returns-in_err-count
returns-in_err-count c =
    let e = err_from_is_err_and c.from_residual.result c.from_residual.ensures.1 in
    rw (e.1, e.2, count_stops c.args.bytes.now (refused-read _ _ c.in_err-count.ensures)) refl

pub read_rows-requires : goal.read_rows-requires
read_rows-requires c =
    (field-read c.args.bytes.now (field 0 64) 0 _ _ (count_read (goal.at.read_rows-requires c).In_ok-count)).fine.most

pub returns-in_err-rows : goal.returns-in_err-rows
returns-in_err-rows c =
    let e = err_from_is_err_and c.from_residual-in_err-rows.result c.from_residual-in_err-rows.ensures.1 in
    let count = count_read (goal.at.returns-in_err-rows c).In_ok-count in
    rw (e.1, e.2, rows_stop c.args.bytes.now count (rows_refused _ c.in_err-rows.ensures)) refl

pub returns-then-rows-bytes : goal.returns-then-rows-bytes
returns-then-rows-bytes c =
    let at = goal.at.returns-then-rows-bytes c in
    rw (trails c.args.bytes.now (count_read at.In_ok-count) (read at.In_ok-rows).1 c.if-rows-bytes.true) refl

pub returns-in_err-check_clashes : goal.returns-in_err-check_clashes
returns-in_err-check_clashes c =
    let at = goal.at.returns-in_err-check_clashes c in
    let e = err_from_is_err_and c.from_residual-in_err-check_clashes.result c.from_residual-in_err-check_clashes.ensures.1 in
    let r = read at.In_ok-rows in
    rw (e.1, e.2, clashes c.args.bytes.now (count_read at.In_ok-count) r.1 c.if-rows-bytes.false r.2 c.in_err-check_clashes.ensures) refl

pub invariant_of-result : goal.invariant_of-result
invariant_of-result c =
    let at = goal.at.invariant_of-result c in
    let r = read at.In_ok-rows in
    record {
      good = faultless c.args.bytes.now (count_read at.In_ok-count) r.1 c.if-rows-bytes.false r.2 c.in_ok-check_clashes.ensures;
      all_rows = search (rules, length_mapped);
      all_times = search rules;
    }

pub returns : goal.returns
returns c =
    let at = goal.at.returns c in
    let r = read at.In_ok-rows in
    rw (goes c.args.bytes.now (count_read at.In_ok-count) r.1 c.if-rows-bytes.false r.2 c.in_ok-check_clashes.ensures) (_, refl, r.2)
