-- Inner: how the text stands behind the functions on the way.
use Rattle.std.specs.Prelude.{ℕ, ◌+◌, ◌≤◌, List, [], ◌∷◌, ◌++◌, length, get_or, take, drop, eqb}
use Rattle.lists.specs.Lists.{pick, each, up_to}
use Rattle.table.specs.declared.Row.{Row}
use Rattle.table.specs.declared.Table.{Table}
use Rattle.table.specs.declared.Verdict.{Verdict}
use Rattle.table.specs.Verdicts.{code_of}
use Rattle.table.specs.Memory.{used_rows, parts_in}
use Rattle.sheet.specs.Sheet.{bound_line, core_line}

-- a row's lines, from its bounds in order
unfoldable pub row_text : ℕ → Row → List ℕ → List ℕ
row_text core row bounds =
    each (λ r. bound_line core row.id (r + 1) (get_or bounds r 0) row.deadline) (up_to (length bounds))

-- the lines of a core, from its rows and their bounds in order
unfoldable pub rows_text : ℕ → List Row → List ℕ → List ℕ
rows_text core [] bounds = []
rows_text core (r ∷ rs) bounds = row_text core r (take r.parts bounds) ++ rows_text core rs (drop r.parts bounds)

-- what is printed of a core, from those and its verdict
unfoldable pub core_bytes : ℕ → List Row → List ℕ → Verdict → List ℕ
core_bytes core rows bounds v = pick (eqb (code_of v) 11) [] (rows_text core rows bounds) ++ core_line core v

-- so many bounds are enough for a core's rows, and no more than a table's times
pub record BoundsFor (own : Table) (bounds : ℕ) : Type 0 where
  pub parts : parts_in (used_rows own) ≤ bounds
  pub most : bounds ≤ 1024
