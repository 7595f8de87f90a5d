-- As many numbers as are wanted; before a row's times these are seven. Assumes nothing.
use Prim.Native.Nat.{ℕ, suc, ◌≤◌, ◌<◌}
use native.Mathlib.Omega.{arith}
use mathlib.Core.Path.{◌≡◌, refl, sym, ap, ◌∙◌}
use mathlib.Core.List.{List, [], ◌∷◌}
use lib.ListN.{length, get_or, drop, drop_of_length-le}
use lib.Seq.{drop-cons}
use Rattle.table.specs.declared.Wanted.{Wanted}
use Rattle.table.specs.Fields.{head, row_from, fields_of}
use Rattle.table.proofs.Fine.{AllFine}

-- fine numbers are as many as are wanted
pub all-length : (ws : List Wanted) (ns : List ℕ) → AllFine ws ns → length ns ≡ length ws
unfolding AllFine
all-length [] [] f = refl
all-length [] (n ∷ ns) f = absurd f
all-length (w ∷ ws) [] f = absurd f
all-length (w ∷ ws) (n ∷ ns) f = ap suc (all-length ws ns f.1)

-- the row of seven numbers has them as its fields
pub seven : (used : ℕ) (ns : List ℕ) → AllFine (head used) ns → fields_of (row_from ns) ≡ ns
unfolding head
seven used ns f =
    let all : length ns ≡ 7 = all-length (head used) ns f in
    let cell : (i : ℕ) → i < 7 → drop i ns ≡ get_or ns i 0 ∷ drop (suc i) ns = λ i h. drop-cons ns i 0 (omega arith) in
    let past : length ns ≤ 7 = omega arith in
    sym (cell 0 (omega arith)
    ∙ rw (cell 1 (omega arith), cell 2 (omega arith), cell 3 (omega arith))
    (rw (cell 4 (omega arith), cell 5 (omega arith), cell 6 (omega arith), drop_of_length-le ns past)))
