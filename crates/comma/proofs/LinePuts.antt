-- A line in the pieces in which the code puts it. Assumes nothing.
use Prim.Native.Nat.{ℕ, ◌≤◌}
use native.Mathlib.Omega.{arith}
use mathlib.Core.Path.{◌≡◌, refl, sym, ap, ◌∙◌}
use mathlib.Core.List.{List, [], ◌∷◌, ◌++◌, map, map-append}
use lib.ListN.{length}
use Rattle.text.specs.Text.{line_feed, decimal, joined}
use Rattle.text.proofs.Joined.{joined_longer, joined-append}
use Rattle.model.specs.Task.{Task}
use Rattle.table.specs.declared.Row.{Row}
use Rattle.table.specs.Fields.{fields_of}
use Rattle.table.specs.Memory.{row_of}
use Rattle.files.specs.Writing.{row_numbers}
use Rattle.fields.specs.TextFields.{comma, carriage_return}
use Rattle.comma.specs.Writing.{line_end, line_of}
use Rattle.comma.specs.Promises.{line_text}

-- a row's fields, each with its comma
abbrev pub fields_piece : Row → List ℕ
fields_piece r = joined comma (comma ∷ []) (map decimal (fields_of r))

-- its times, with the CR behind the last
abbrev pub times_piece : List ℕ → List ℕ
times_piece times = joined comma (carriage_return ∷ []) (map decimal times)

-- both, and the LF
pub line_pieces : (r : Row) (times : List ℕ) → 1 ≤ length times
    → line_text r times ≡ fields_piece r ++ (times_piece times ++ (line_feed ∷ []))
unfolding line_text
line_pieces r [] h = absurd (omega arith)
line_pieces r (n ∷ ns) h =
    ap (joined comma line_end) (map-append decimal (fields_of r) (n ∷ ns))
    ∙ sym (joined-append comma line_end _ (decimal n) _ (map decimal ns))
    ∙ ap (◌++◌ (fields_piece r)) (sym (joined_longer comma (carriage_return ∷ []) (line_feed ∷ []) (map decimal (n ∷ ns))))

-- the line of a task is that of its row and its times
pub line_of_lem : (t : Task) → line_text (row_of t) t.times ≡ line_of t
unfolding line_text line_of row_numbers
line_of_lem t = refl
