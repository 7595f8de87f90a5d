-- The lines of a sheet, each at its place: the header, then of each core the lines of its bounds, row by row, and its verdict.
-- Assumes nothing.
use Prim.Native.Nat.{ℕ, suc, ◌+◌, ◌<◌}
use native.Mathlib.Nat.{add-zero, add_assoc}
use native.Mathlib.Omega.{arith}
use borrow.Author.Tests.{ne_eqb}
use mathlib.Core.Path.{◌≡◌, refl, ap, ◌∙◌}
use mathlib.Core.List.{List, [], ◌∷◌, ◌++◌}
use lib.ListN.{length, take, length-append}
use lib.Dec.{eqb}
use Rattle.lists.specs.Lists.{pick, any, each, total, listed, up_to, Place}
use Rattle.lists.proofs.Tests.{by_test}
use Rattle.lists.proofs.Totals.{total_same}
use Rattle.lists.proofs.Each.{each-length}
use Rattle.lists.proofs.Listed.{listed-length}
use Rattle.lists.proofs.Counted.{take-listed}
use Rattle.lists.proofs.EachPlaces.{place_left, place_right, place_listed, place_each}
use Rattle.model.specs.Task.{Task, parts}
use Rattle.model.specs.Bounds.{on_core}
use Rattle.table.specs.declared.Verdict.{Verdict}
use Rattle.table.specs.Verdicts.{code_of, number_of}
use Rattle.fields.specs.Stepping.{go}
use Rattle.files.specs.Reading.{decode}
use Rattle.analysis.specs.Analysis.{needed, said_of}
use Rattle.text.specs.Text.{lines_in}
use Rattle.text.proofs.WholeLines.{decimal_plain, decimals_plain}
use Rattle.text.proofs.WholeLines.{InLines, line_alone, no_line, append_lines, each_lines, counted_lines, all_lines}
use Rattle.sheet.specs.Sheet.{file_word, header, bound_line, verdict_words, core_line, file_line, part_line, row_lines, core_text_of}
use Rattle.sheet.specs.Sheet.{core_text, good_text, text_of, sheet_text}
use Rattle.sheet.specs.Claims.{bound_count, lines_before, LineOfItsRow, LineOfItsCore, NoOtherLine, LineOfARefusal}

-- ---- the lines

-- of all parts of a row
abbrev row_list : ℕ → List Task → Task → List (List ℕ)
row_list core rows t = listed (part_line core rows t) (parts t)

-- of a core's bounds
bound_list : List Task → ℕ → List (List ℕ)
bound_list tasks core = pick (eqb (code_of (said_of tasks core)) 11) [] (each (row_list core (on_core core tasks)) (on_core core tasks))

-- and with its verdict
abbrev core_list : List Task → ℕ → List (List ℕ)
core_list tasks core = bound_list tasks core ++ (core_line core (said_of tasks core) ∷ [])

-- ---- the text is these lines

-- of the header
header_lines : InLines header (header ∷ [])
unfolding header any
header_lines = line_alone _ _ refl

-- of a row
row_lines_lem : (core : ℕ) (rows : List Task) (t : Task) → InLines (row_lines core rows t) (row_list core rows t)
unfolding row_lines bound_line
row_lines_lem core rows t =
    counted_lines (part_line core rows t) (λ r. line_alone _ _ (decimals_plain (core ∷ _ ∷ _ ∷ _ ∷ _ ∷ []))) (λ r. r) (parts t)

-- of a verdict
verdict_lines : (core : ℕ) (v : Verdict) → InLines (core_line core v) (core_line core v ∷ [])
unfolding core_line any
verdict_lines core v = line_alone _ _ (rw (decimal_plain core, decimal_plain (code_of v), decimal_plain (number_of v)))

module _ (tasks : List Task) where
  -- of a core
  core_lines_lem : (core : ℕ) → InLines (core_text tasks core) (core_list tasks core)
  unfolding core_text core_text_of bound_list
  core_lines_lem core =
      let rows : List Task = on_core core tasks in
      by_test (eqb (code_of (said_of tasks core)) 11)
      (λ e. rw e (append_lines no_line (verdict_lines core _)))
      (λ e. rw e (append_lines (each_lines _ (row_list core rows) (row_lines_lem core rows) rows) (verdict_lines core _)))

  -- of the whole sheet
  good_lines : InLines (good_text tasks) (header ∷ each (core_list tasks) (up_to 4))
  unfolding good_text
  good_lines = append_lines header_lines (each_lines (core_text tasks) (core_list tasks) core_lines_lem (up_to 4))

-- ---- how many there are

-- of rows
rows_counted : (core : ℕ) (rows ts : List Task) → total (λ t. length (row_list core rows t)) ts ≡ needed ts
unfolding needed
rows_counted core rows ts = total_same _ parts ts (λ t m. listed-length (part_line core rows t) (parts t))

module _ (tasks : List Task) where
  -- of a core's bounds
  bounds_counted : (core : ℕ) → length (bound_list tasks core) ≡ bound_count tasks core
  unfolding bound_list bound_count
  bounds_counted core =
      let rows : List Task = on_core core tasks in
      by_test (eqb (code_of (said_of tasks core)) 11) (λ e. rw e)
      (λ e. rw e (each-length (row_list core rows) rows ∙ rows_counted core rows rows))

  -- of cores
  cores_counted : (cs : List ℕ) → total (λ c. length (core_list tasks c)) cs ≡ total (λ c. bound_count tasks c + 1) cs
  cores_counted cs =
      total_same _ _ cs (λ c m. length-append (bound_list tasks c) (core_line c _ ∷ []) ∙ ap (λ (n : ℕ). n + 1) (bounds_counted c))

-- ---- each at its place

module _ (s : List ℕ) (tasks : List Task) (next : ℕ) (e : decode s ≡ go tasks next) where
  -- the lines of the sheet
  sheet_lines : lines_in (sheet_text s) ≡ header ∷ each (core_list tasks) (up_to 4)
  unfolding sheet_text text_of
  sheet_lines = ap (λ x. lines_in (text_of x)) e ∙ all_lines (good_lines tasks)

  -- a core's lines stand behind those of the cores before
  in_sheet : (core : ℕ) → core < 4 → (k : ℕ) (l : List ℕ) → Place (core_list tasks core) k l
      → Place (lines_in (sheet_text s)) (lines_before tasks core + k) l
  unfolding Place lines_before
  in_sheet core h k l p =
      let front : take core (up_to 4) ≡ up_to core = take-listed (λ i. i) 4 core (omega arith) in
      let count = cores_counted tasks (take core (up_to 4)) ∙ ap (total (λ c. bound_count tasks c + 1)) front in
      let here : lines_before tasks core + k ≡ suc (total (λ c. length (core_list tasks c)) (take core (up_to 4)) + k) = omega arith in
      rw (sheet_lines, here) (place_each (core_list tasks) (up_to 4) core core (place_listed (λ i. i) 4 core h) k l p)

-- each bound, at its place
pub line_of_its_row : LineOfItsRow
unfolding bound_list
line_of_its_row s tasks next e core h some i t p r q =
    let rows : List Task = on_core core tasks in
    let own = place_each (row_list core rows) rows i t p r (part_line core rows t r) (place_listed (part_line core rows t) (parts t) r q) in
    let mine = place_left _ (core_line core (said_of tasks core) ∷ []) _ _ (rw (rows_counted core rows (take i rows)) at own) in
    rw add_assoc (in_sheet s tasks next e core h (needed (take i rows) + r) _ (rw (ne_eqb (code_of (said_of tasks core)) 11 some) mine))

-- the verdict behind them
pub line_of_its_core : LineOfItsCore
unfolding Place
line_of_its_core s tasks next e core h =
    let last = place_right (bound_list tasks core) (core_line core (said_of tasks core) ∷ []) 0 _ refl in
    in_sheet s tasks next e core h (bound_count tasks core) _ (rw (add-zero, bounds_counted tasks core) at last)

-- and no other
pub no_other_line : NoOtherLine
unfolding Place lines_before
no_other_line s tasks next e =
    let all = each-length (core_list tasks) (up_to 4) ∙ cores_counted tasks (up_to 4) in
    (rw (sheet_lines s tasks next e) refl, ap length (sheet_lines s tasks next e) ∙ omega (arith, all))

-- with a reading code there is one line
pub line_of-a-refusal : LineOfARefusal
unfolding sheet_text text_of file_line any
line_of-a-refusal s v e =
    ap (λ x. lines_in (text_of x)) e
    ∙ all_lines (line_alone file_word (verdict_words v) (rw (decimal_plain (code_of v), decimal_plain (number_of v))))
