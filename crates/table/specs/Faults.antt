-- Document 01, "Codes and what they leave": the faults of a table in memory, before it is written.
use Rattle.std.specs.Prelude.{ℕ, suc, ◌+◌, List, [], ◌∷◌, take, drop, replicate, ltb}
use Rattle.lists.specs.Lists.{pick}
use Rattle.table.specs.declared.Row.{Row}
use Rattle.table.specs.declared.Table.{Table}
use Rattle.table.specs.declared.Verdict.{Verdict}
use Rattle.table.specs.declared.Verdict.TheVariants.{Good, OutOfRange}
use Rattle.table.specs.Verdicts.{◌or_else◌}
use Rattle.table.specs.Fields.{head, time, fields_of, fault_in}
use Rattle.table.specs.Memory.{used_rows}
use Rattle.table.specs.Clash.{clash_of}

-- row i with `used` times before it: its fields in file order, then its times; 3 or 7 with the row as number
unfoldable pub row_fault : ℕ → ℕ → Row → List ℕ → Verdict
row_fault i used r times =
    fault_in (head used) i (fields_of r) or_else fault_in (replicate r.parts time) i (take r.parts times)

-- row by row, from row i on
unfoldable pub rows_fault : ℕ → ℕ → List Row → List ℕ → Verdict
rows_fault i used [] times = Good
rows_fault i used (r ∷ rs) times = row_fault i used r times or_else rows_fault (suc i) (used + r.parts) rs (drop r.parts times)

-- a row count above 64 is 3 with number 64; then row by row; then 4, 5, 6
unfoldable pub fault_of : Table → Verdict
fault_of t = pick (ltb 64 t.count) (OutOfRange 64) (rows_fault 0 0 (used_rows t) t.times or_else clash_of (used_rows t))
