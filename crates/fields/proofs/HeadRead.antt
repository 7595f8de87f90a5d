-- A row's fields before its times, as numbers and as a row; and what the code's answers say of them. Assumes nothing.
use Prim.Native.Nat.{ℕ}
use mathlib.Core.Path.{◌≡◌}
use mathlib.Core.List.{List}
use Rattle.std.specs.Prelude.{Ok, Err}
use Rattle.numbers.specs.declared.Read.{Read}
use Rattle.table.specs.declared.Row.{Row}
use Rattle.table.specs.declared.Verdict.{Verdict}
use Rattle.table.specs.Fields.{row_from}
use Rattle.fields.specs.Stepping.{Step, stop, go}
use Rattle.fields.specs.Promises.{as_row}

-- a row's fields that were got, as numbers and as a row
pub record GotHead (x : Step (List ℕ)) (row : Row) (n : ℕ) : Type 0 where
  pub fields : List ℕ
  pub first : x ≡ go fields n
  pub is : row_from fields ≡ row

-- so it is where the code got them
pub got_head : (x : Step (List ℕ)) (r : Read Row) → Ok r ≡ as_row x → GotHead x r.value r.next
got_head (stop w) r e = absurd cc
got_head (go fields m) r e = record { fields = fields; first = cc; is = cc }

-- and where it was refused
pub refused-head : (x : Step (List ℕ)) (v : Verdict) → Err v ≡ as_row x → x ≡ stop v
refused-head (stop w) v e = cc
refused-head (go fields m) v e = absurd cc
