-- The bytes of a file, row by row. Assumes nothing.
use Prim.Native.Nat.{ℕ}
use mathlib.Core.Path.{◌≡◌, refl, ap}
use mathlib.Core.List.{List, [], ◌∷◌, ◌++◌}
use lib.ListN.{length}
use Rattle.lists.specs.Lists.{each}
use Rattle.lists.proofs.Each.{each_append}
use Rattle.lists.proofs.EachPart.{each-each}
use Rattle.numbers.specs.Numbers.{encode, encode_all}
use Rattle.model.specs.Task.{Task}
use Rattle.table.specs.Fields.{fields_of}
use Rattle.table.specs.Memory.{row_of}
use Rattle.files.specs.Writing.{row_numbers, file_numbers, encode_file}

-- the bytes of a row, and of rows one after another
unfoldable pub row_bytes : Task → List ℕ
row_bytes t = encode_all (row_numbers t)

unfoldable pub rows_bytes : List Task → List ℕ
rows_bytes ts = each row_bytes ts

-- a row: its fields, then its times
pub row-parts : (t : Task) → row_bytes t ≡ encode_all (fields_of (row_of t)) ++ encode_all t.times
unfolding row_bytes row_numbers
row-parts t = each_append encode (fields_of (row_of t)) t.times

-- no rows take no bytes
pub rows_none : rows_bytes [] ≡ []
unfolding rows_bytes each
rows_none = refl

-- the first row, then the others
pub rows_more : (t : Task) (ts : List Task) → rows_bytes (t ∷ ts) ≡ row_bytes t ++ rows_bytes ts
unfolding rows_bytes each
rows_more t ts = refl

-- the row count, then the rows
pub file-parts : (ts : List Task) → encode_file ts ≡ encode (length ts) ++ rows_bytes ts
unfolding encode_file file_numbers rows_bytes row_bytes each
file-parts ts = ap (◌++◌ (encode (length ts))) (each-each encode row_numbers ts)
