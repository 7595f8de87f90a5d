-- The text of a file: what reading says of it decides, and it is never longer than 29,842 bytes. Assumes nothing.
use Prim.Native.Nat.{ℕ, ◌≤◌}
use native.Mathlib.Omega.{arith}
use mathlib.Core.Path.{◌≡◌, refl, sym, ap, ◌∙◌}
use mathlib.Core.List.{List, map}
use lib.ListN.{length, length-map, take}
use Rattle.std.specs.Prelude.{Ok, Err}
use Rattle.lists.specs.Lists.{◌∈◌}
use Rattle.lists.proofs.Overs.{take-over}
use Rattle.lists.proofs.PadStores.{pad-length}
use Rattle.model.specs.Task.{Task}
use Rattle.model.specs.Rows.{GoodTask}
use Rattle.table.specs.declared.GoodTable.{GoodTable}
use Rattle.table.specs.declared.Verdict.{Verdict}
use Rattle.table.specs.declared.Verdict.TheVariants.{Good}
use Rattle.table.specs.Memory.{zero_row, row_of, all_times, stored, tasks_of}
use Rattle.table.proofs.Stored.{tasks-stored}
use Rattle.table.proofs.GoodTasks.{GoodTasks, times_fit, stored-good}
use Rattle.table.proofs.EachGood.{each-good}
use Rattle.fields.specs.Stepping.{Step, stop, go}
use Rattle.files.specs.Reading.{decode, Loads}
use Rattle.files.proofs.Enough.{decodes_alike}
use Rattle.files.proofs.Back.{file_back}
use Rattle.files.proofs.Carried.{carried}
use Rattle.sheet.specs.Sheet.{file_line, good_text, text_of, sheet_text}
use Rattle.table.proofs.Writes.{room-good, verdict_said, wrote_count, wrote_bytes}
use Rattle.sheet.specs.Claims.{TextIsShort, TextIsPrinted, SheetOfTheFront}
use Rattle.sheet.proofs.Short.{code_short, file_line_short, good_short}

-- ---- what is read

module _ (s : List ℕ) where
  -- of a file with a reading code
  pub refused-text : (v : Verdict) → Loads (decode s) (Err v) → sheet_text s ≡ file_line v
  unfolding sheet_text text_of
  refused-text v l = of (decode s) l
    where
      of : (x : Step (List Task)) → Loads x (Err v) → text_of x ≡ file_line v
      of (stop u) e = cc
      of (go ts n) q = let no = q.1 in cc

  -- of a good one
  pub good_text_lem : (t : GoodTable) → Loads (decode s) (Ok t) → sheet_text s ≡ good_text (tasks_of t.table)
  unfolding sheet_text text_of
  good_text_lem t l = of (decode s) l
    where
      of : (x : Step (List Task)) → Loads x (Ok t) → text_of x ≡ good_text (tasks_of t.table)
      of (stop v) e = cc
      of (go ts n) q =
          let same : t ≡ q.0 = (let p = q.1 in cc) in
          ap good_text (sym (ap (λ (x : GoodTable). tasks_of x.table) same ∙ ap tasks_of q.2 ∙ tasks-stored ts))

-- a longer file is read as its first 5,124 bytes are, so it prints the same
pub sheet-of_the_front : SheetOfTheFront
unfolding sheet_text
sheet-of_the_front s bs = ap text_of (decodes_alike s bs)

-- ---- how long the text is

-- good tasks are good rows, one by one
tasks-each : (ts : List Task) → GoodTasks ts → length (all_times ts) ≤ 1024 → (u : Task) → u ∈ ts → GoodTask u
tasks-each ts g few u m =
    let rows = pad-length zero_row 64 (map row_of ts) (rw length-map g.few) in
    let times = pad-length 0 1024 (all_times ts) few in
    each-good (stored ts) rows times (stored-good ts g) u (rw (tasks-stored ts) m)

-- the text of any file
pub text_is_short : TextIsShort
unfolding sheet_text text_of
text_is_short s bs few = of-step (decode s) refl
  where
    of-step : (x : Step (List Task)) → decode s ≡ x → length (text_of x) ≤ 29842
    of-step (stop v) e =
        unfold text_of in omega (arith, file_line_short v (code_short v) (omega (arith, carried s bs v e)))
    of-step (go ts n) e =
        let good = (file_back s ts n e).good in
        let times : length (all_times ts) ≤ 1024 = omega (arith, times_fit 0 ts (omega arith) good.fine) in
        unfold text_of in good_short ts (tasks-each ts good times) times

-- so it always fits that many bytes
pub text_is_printed : TextIsPrinted
text_is_printed s bs few out r out' p h =
    let fits : length (sheet_text s) ≤ length out = omega (arith, text_is_short s bs few) in
    let fine : r.verdict ≡ Good = sym (verdict_said Good (sheet_text s) out r out' p) ∙ room-good Good (sheet_text s) out refl fits in
    let bytes : take r.count out' ≡ sheet_text s
    = rw (wrote_count Good (sheet_text s) out r out' p fine, wrote_bytes Good (sheet_text s) out r out' p fine)
    (take-over (sheet_text s) out) in
    (fine, bytes)
