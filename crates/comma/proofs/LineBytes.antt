-- The bytes of a text, line by line. Assumes nothing.
use Prim.Native.Nat.{ℕ, ◌≤◌, ◌<◌}
use native.Mathlib.Omega.{arith}
use mathlib.Core.Path.{◌≡◌, refl, sym, ap, ◌∙◌}
use mathlib.Core.List.{List, [], ◌∷◌, ◌++◌, map, map-append}
use lib.ListN.{length, length-append}
use Rattle.lists.specs.Lists.{each}
use Rattle.lists.proofs.Each.{each_map}
use Rattle.text.specs.Text.{decimal, joined}
use Rattle.text.proofs.Numerals.{decimal_first}
use Rattle.text.proofs.Joined.{joined-append, joined-each, joined-last}
use Rattle.model.specs.Task.{Task}
use Rattle.table.specs.Fields.{fields_of}
use Rattle.table.specs.Memory.{row_of}
use Rattle.table.proofs.Heads.{good-head}
use Rattle.table.proofs.GoodTasks.{FineTask}
use Rattle.files.specs.Writing.{row_numbers}
use Rattle.fields.specs.TextFields.{comma}
use Rattle.comma.specs.Writing.{line_end, line_of, lines_of}

-- a number with its comma
abbrev pub with_comma : ℕ → List ℕ
with_comma n = decimal n ++ (comma ∷ [])

-- numbers with a comma between every two and the line's end
abbrev pub in_line : List ℕ → List ℕ
in_line ns = joined comma line_end (map decimal ns)

-- all but the last with their commas, then the last
pub in_line-last : (ns : List ℕ) (v : ℕ) → in_line (ns ++ (v ∷ [])) ≡ each with_comma ns ++ (decimal v ++ line_end)
in_line-last ns v =
    ap (joined comma line_end) (map-append decimal ns (v ∷ [])) ∙ joined-last comma line_end (map decimal ns) (decimal v)
    ∙ ap (λ front. front ++ (decimal v ++ line_end)) (each_map (λ d. d ++ (comma ∷ [])) decimal ns)

-- numbers with their commas, and others behind them
in_line-append : (n v : ℕ) (ns vs : List ℕ) → in_line ((n ∷ ns) ++ (v ∷ vs)) ≡ each with_comma (n ∷ ns) ++ in_line (v ∷ vs)
in_line-append n v ns vs =
    let front : joined comma (comma ∷ []) (map decimal (n ∷ ns)) ≡ each with_comma (n ∷ ns)
    = joined-each comma (decimal n) (map decimal ns) ∙ each_map (λ d. d ++ (comma ∷ [])) decimal (n ∷ ns) in
    ap (joined comma line_end) (map-append decimal (n ∷ ns) (v ∷ vs))
    ∙ sym (joined-append comma line_end (decimal n) (decimal v) (map decimal ns) (map decimal vs))
    ∙ ap (λ l. l ++ in_line (v ∷ vs)) front

-- a line: its fields with their commas, then its times, of which there are some
pub line-parts : (used : ℕ) (t : Task) → FineTask used t → line_of t ≡ each with_comma (fields_of (row_of t)) ++ in_line t.times
unfolding line_of row_numbers
line-parts used t f = by t.times (good-head used (row_of t) f.fields).parts.least
  where
    by : (ts : List ℕ) → 1 ≤ length ts → in_line (fields_of (row_of t) ++ ts) ≡ each with_comma (fields_of (row_of t)) ++ in_line ts
    by [] some = absurd (omega arith)
    by (v ∷ ts) some = in_line-append _ v _ ts

-- some bytes in front are some bytes
front_some : (a b : List ℕ) → 0 < length a → 0 < length (a ++ b)
front_some a b h = omega (arith, length-append a b)

-- so a line has some
pub line_some : (t : Task) → 0 < length (line_of t)
unfolding line_of row_numbers joined
line_some t = front_some (with_comma t.id) _ (front_some (decimal t.id) (comma ∷ []) (decimal_first t.id).some)

-- no lines take no bytes
pub lines_none : lines_of [] ≡ []
unfolding lines_of each
lines_none = refl

-- the first line, then the others
pub lines_more : (t : Task) (ts : List Task) → lines_of (t ∷ ts) ≡ line_of t ++ lines_of ts
unfolding lines_of each
lines_more t ts = refl
