-- Laws of reading lines one by one, for the proof of the code that reads. Assumes nothing.
use Prim.Native.Nat.{ℕ, zero, suc, ◌-◌, ◌≤◌, ◌<◌}
use native.Mathlib.Numerals.{sub-one}
use native.Mathlib.Omega.{arith}
use borrow.Author.Tests.{lt-ltb, le-ltb}
use mathlib.Core.Path.{◌≡◌, ◌∙◌}
use mathlib.Core.List.{List, [], ◌∷◌, ◌++◌}
use lib.ListN.{length}
use Rattle.model.specs.Task.{Task}
use Rattle.table.specs.declared.Verdict.{Verdict}
use Rattle.table.specs.declared.Verdict.TheVariants.{OutOfRange}
use Rattle.table.specs.Memory.{all_times, rows_of}
use Rattle.table.specs.Clash.{clash_of}
use Rattle.fields.specs.Stepping.{stop, go, ◌then◌, unless}
use Rattle.comma.specs.Reading.{line_at, lines_at, decode_text}

module _ (done : List Task) (s : List ℕ) (p : ℕ) where
  -- at the text's end
  pub lines_end : (k : ℕ) → length s ≤ p → lines_at k done s p ≡ go done p
  unfolding lines_at
  lines_end zero h = rw (le-ltb p (length s) h)
  lines_end (suc k) h = rw (le-ltb p (length s) h)

  module _ (h : p < length s) where
    -- a line too many
    pub lines_over : lines_at 0 done s p ≡ stop (OutOfRange p)
    unfolding lines_at
    lines_over = rw (lt-ltb p (length s) h)

    -- a line, then the others
    lines_step : (k : ℕ) → 0 < k
        → lines_at k done s p ≡ (line_at (length (all_times done)) s p then λ task at. lines_at (k - 1) (done ++ (task ∷ [])) s at)
    unfolding lines_at
    lines_step zero some = absurd (omega arith)
    lines_step (suc k) some = rw (lt-ltb p (length s) h, sub-one)

    -- the line is read
    pub lines_more : (k : ℕ) → 0 < k → (task : Task) (q : ℕ) → line_at (length (all_times done)) s p ≡ go task q
        → lines_at k done s p ≡ lines_at (k - 1) (done ++ (task ∷ [])) s q
    unfolding ◌then◌
    lines_more k some task q e = lines_step k some ∙ rw e

    -- the line is refused
    pub lines_stop : (k : ℕ) → 0 < k → (v : Verdict) → line_at (length (all_times done)) s p ≡ stop v → lines_at k done s p ≡ stop v
    unfolding ◌then◌
    lines_stop k some v e = lines_step k some ∙ rw e

module _ (s : List ℕ) where
  -- lines that are refused
  pub text_stops : {v : Verdict} → lines_at 64 [] s 0 ≡ stop v → decode_text s ≡ stop v
  unfolding decode_text ◌then◌
  text_stops e = rw e

  -- lines that are read, and the rules over all of them
  pub text_ends : {ts : List Task} {n : ℕ} → lines_at 64 [] s 0 ≡ go ts n → decode_text s ≡ unless (clash_of (rows_of ts)) ts n
  unfolding decode_text ◌then◌
  text_ends e = rw e
