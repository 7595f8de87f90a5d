-- What is printed of a core, from its rows and the bounds that were written, is the core's text. Assumes nothing.
use Prim.Native.Nat.{ℕ, ◌+◌, ◌≤◌}
use native.Mathlib.Omega.{arith}
use mathlib.Core.Path.{◌≡◌, refl, ap, ◌∙◌}
use mathlib.Core.Bool.{true, false}
use mathlib.Core.List.{List, [], ◌∷◌, ◌++◌, append_assoc}
use lib.ListN.{length, take, drop}
use lib.Seq.{take_at, drop_at}
use lib.Dec.{eqb}
use Rattle.lists.specs.Lists.{each, over, total, up_to}
use Rattle.lists.proofs.Each.{each_same}
use Rattle.lists.proofs.Listed.{listed-length, listed_at}
use Rattle.lists.proofs.Counted.{counted_below}
use Rattle.lists.proofs.Tests.{by_test, never}
use Rattle.model.specs.Task.{Task, parts}
use Rattle.model.specs.Bounds.{on_core, bound, row_bounds, CoreVerdict, passes, no_window, misses, core_verdict}
use Rattle.table.specs.declared.Table.{Table}
use Rattle.table.specs.Verdicts.{code_of}
use Rattle.table.specs.Memory.{row_of, rows_of, parts_in, used_rows, tasks_of}
use Rattle.table.proofs.Stored.{stored-rows}
use Rattle.cores.specs.declared.Core.{Core}
use Rattle.cores.specs.Cores.{tasks_in}
use Rattle.cores.specs.Promises.{IsCore}
use Rattle.analysis.specs.declared.Analysed.{Analysed}
use Rattle.analysis.specs.Analysis.{needed, core_bounds, named, room_said, writes, room_after, Gives}
use Rattle.analysis.proofs.Given.{room_said_lem, said_is, room_written, answered-verdict}
use Rattle.analysis.proofs.BoundsPut.{bounds_long}
use Rattle.sheet.specs.Sheet.{bound_line, row_lines, core_text_of, core_text}
use Rattle.sheet.specs.Promises.{row_text, rows_text, core_bytes, BoundsFor}

-- ---- the lines

-- a row's lines are those of its own bounds
row_same : (core : ℕ) (rows : List Task) (t : Task) → row_text core (row_of t) (row_bounds rows t) ≡ row_lines core rows t
unfolding row_text row_lines row_bounds
row_same core rows t =
    rw (listed-length (bound rows t) (parts t))
    (each_same _ _ (up_to (parts t))
    (λ r m. ap (λ (b : ℕ). bound_line core t.id (r + 1) b t.deadline)
    (listed_at (bound rows t) (parts t) r 0 (counted_below (parts t) r m))))

-- the bounds of a row of the core stand in front
module _ (rows : List Task) (t : Task) (others rest : List ℕ) where
  -- they are the first
  own-front : take (length t.times) (row_bounds rows t ++ others ++ rest) ≡ row_bounds rows t
  unfolding parts
  own-front = rw append_assoc (take_at (row_bounds rows t) (others ++ rest) (length t.times) (bounds_long rows t))

  -- and those of the others come next
  own_behind : drop (length t.times) (row_bounds rows t ++ others ++ rest) ≡ others ++ rest
  unfolding parts
  own_behind = rw append_assoc (drop_at (row_bounds rows t) (others ++ rest) (length t.times) (bounds_long rows t))

-- the lines of rows, from their bounds, whatever stands behind them
lines_same : (core : ℕ) (rows ts : List Task) (rest : List ℕ)
    → rows_text core (rows_of ts) (each (row_bounds rows) ts ++ rest) ≡ each (row_lines core rows) ts
unfolding rows_text each
lines_same core rows [] rest = refl
lines_same core rows (t ∷ ts) rest =
    rw (own-front rows t _ rest, own_behind rows t _ rest, row_same core rows t)
    (ap (◌++◌ (row_lines core rows t)) (lines_same core rows ts rest))

-- ---- the text

-- without code 11 the bounds are written
does_write : (v : CoreVerdict) → eqb (code_of (named v)) 11 ≡ false → writes (named v) ≡ true
unfolding named writes
does_write passes e = refl
does_write (misses t) e = refl
does_write (no_window t) e = absurd (never refl e)

-- by the verdict and what it leaves of the bounds
text_of : (core : ℕ) (rows : List Task) (bounds : List ℕ) (v : CoreVerdict)
    → core_bytes core (rows_of rows) (room_after (named v) rows bounds) (named v) ≡ core_text_of core rows (named v)
unfolding core_bytes core_text_of over core_bounds
text_of core rows bounds v =
    by_test (eqb (code_of (named v)) 11) (λ e. rw e)
    (λ e. rw (e, room_written (named v) rows bounds (does_write v e), lines_same core rows rows _))

-- so many parts
parts_in_lem : (ts : List Task) → parts_in (rows_of ts) ≡ total parts ts
unfolding total parts
parts_in_lem [] = refl
parts_in_lem (t ∷ ts) = ap (◌+◌ (length t.times)) (parts_in_lem ts)

module _ {c : Core} (k : IsCore c) where
  -- the core's rows, as they stand in its table
  rows-here : used_rows c.own ≡ rows_of (tasks_in c)
  rows-here = ap (λ (x : Core). used_rows x.own) k.is ∙ stored-rows (tasks_in c)

  -- a table's 1,024 bounds are enough
  pub enough : (bounds : ℕ) → bounds ≡ 1024 → BoundsFor c.own bounds
  enough bounds long =
      record {
        parts = rw (rows-here, parts_in_lem (tasks_in c)) (omega (arith, k.fits));
        most = omega arith;
      }

  -- what is printed from them is the text of the core
  pub text_is : (t : Table) (core : ℕ) → core ≤ 3 → tasks_in c ≡ on_core core (tasks_of t)
      → {bounds : List ℕ} {a : Analysed} {bounds' : List ℕ} → length bounds ≡ 1024
      → Gives (room_said (tasks_in c) (length bounds)) (tasks_in c) bounds a bounds'
      → core_bytes core (used_rows c.own) bounds' a.verdict ≡ core_text (tasks_of t) core
  unfolding core_text
  text_is t core small own {bounds} {a} {bounds'} long gives =
      let mine : List Task = tasks_in c in
      let fits : needed mine ≤ length bounds = unfold needed in omega (arith, k.fits) in
      let is : room_said mine (length bounds) ≡ named (core_verdict mine) = room_said_lem mine (length bounds) fits in
      let verdict : a.verdict ≡ named (core_verdict mine)
      = ap (λ (x : Analysed). x.verdict) gives.answer ∙ answered-verdict (room_said mine (length bounds)) mine ∙ is in
      rw (verdict, gives.left, is, rows-here)
      (text_of core mine bounds (core_verdict mine)
      ∙ ap (λ (rows : List Task). core_text_of core rows (named (core_verdict rows))) own
      ∙ rw (said_is core (on_core core (tasks_of t)) (needed (on_core core (tasks_of t))) small (omega arith)))
