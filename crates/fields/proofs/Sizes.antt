-- How many bytes wanted numbers take: each at most four, a row's fields 16 in all; and where reading them ends. Assumes nothing.
use Prim.Native.Nat.{ℕ, zero, suc, ◌+◌, ◌*◌, ◌^◌, ◌≤◌, ◌<◌}
use native.Mathlib.Omega.{arith}
use mathlib.Core.Path.{◌≡◌, refl}
use mathlib.Core.List.{List, [], ◌∷◌, ◌++◌}
use lib.ListN.{length, replicate}
use lib.Dec.{lit<}
use Rattle.lists.specs.Lists.{total}
use Rattle.lists.proofs.Each.{each-length}
use Rattle.lists.proofs.Totals.{total_snoc}
use Rattle.numbers.specs.Numbers.{encode_in, encode, encode_all}
use Rattle.numbers.proofs.Laws.{length-one}
use Rattle.numbers.proofs.Sizes.{longer}
use Rattle.table.specs.declared.Wanted.{Wanted}
use Rattle.table.specs.Fields.{head, time}
use Rattle.table.proofs.Fine.{AllFine}
use Rattle.fields.specs.Stepping.{Step, go, fields_at}
use Rattle.fields.proofs.Taken.{then_read}

-- the numbers so wanted have at most four groups of seven bits
unfoldable pub Four : List Wanted → Type 0
Four [] = Unit {0}
Four (w ∷ ws) = (w.high < 128 ^ 4) × Four ws

-- a row's fields
pub four_head : (used : ℕ) → Four (head used)
unfolding head Four
four_head used = (lit< tt, (lit< tt, (lit< tt, (lit< tt, (lit< tt, (lit< tt, (lit< tt, tt)))))))

-- its times
pub four_times : (n : ℕ) → Four (replicate n time)
unfolding Four
four_times zero = tt
four_times (suc n) = (lit< tt, four_times n)

-- what grows with a number is, over fine numbers, at most what it is over the largest of them
pub fine_most : (f : ℕ → ℕ) → ((n m : ℕ) → n ≤ m → f n ≤ f m) → (ws : List Wanted) (ns : List ℕ) → AllFine ws ns
    → total f ns ≤ total (λ w. f w.high) ws
unfolding AllFine total
fine_most f grows [] [] all = omega arith
fine_most f grows [] (n ∷ ns) all = absurd all
fine_most f grows (w ∷ ws) [] all = absurd all
fine_most f grows (w ∷ ws) (n ∷ ns) all = omega (arith, grows n w.high all.0.most, fine_most f grows ws ns all.1)

-- the largest of them takes the most bytes
unfoldable pub bytes_of : Wanted → ℕ
bytes_of w = length (encode w.high)

-- so they take no more than their largest would
pub short : (ws : List Wanted) (ns : List ℕ) → AllFine ws ns → length (encode_all ns) ≤ total bytes_of ws
unfolding bytes_of
short ws ns f = rw (each-length encode ns) (fine_most (λ n. length (encode n)) longer ws ns f)

-- one for a number below 128
pub bytes_one : (w : Wanted) → w.high < 128 → bytes_of w ≡ 1
unfolding bytes_of
bytes_one w h = length-one w.high h

-- id 3, core 1, type 1, priority 2, period 4, deadline 4, part count 1
pub bytes-head : (used : ℕ) → total bytes_of (head used) ≡ 16
unfolding head total bytes_of encode encode_in
bytes-head used = refl

-- four for each time
pub bytes-times : (n : ℕ) → total bytes_of (replicate n time) ≡ 4 * n
unfolding total bytes_of encode encode_in
bytes-times zero = refl
bytes-times (suc n) = omega (arith, bytes-times n)

-- ---- where reading ends

module _ (one : Wanted → ℕ → Step ℕ) (cost : ℕ → ℕ)
    (own : (w : Wanted) (at v n : ℕ) → one w at ≡ go v n → n ≤ at + cost v) where
  -- numbers behind those that are done
  fields-end_from : (ws : List Wanted) (done : List ℕ) (at : ℕ) (all : List ℕ) (n : ℕ) → fields_at one ws done at ≡ go all n
      → n + total cost done ≤ at + total cost all
  unfolding fields_at
  fields-end_from [] done at all n e =
      let same : done ≡ all = cc in
      let here : at ≡ n = cc in
      rw same (omega arith)
  fields-end_from (w ∷ ws) done at all n e =
      let r = then_read (one w at) (λ v m. fields_at one ws (done ++ (v ∷ [])) m) all n e in
      let more = total_snoc cost done r.what in
      omega (arith, own w at r.what r.place r.first, fields-end_from ws (done ++ (r.what ∷ [])) r.place all n r.rest)

  -- where each takes at most its cost, all take at most theirs
  pub fields-end : (ws : List Wanted) (at : ℕ) (all : List ℕ) (n : ℕ) → fields_at one ws [] at ≡ go all n → n ≤ at + total cost all
  unfolding total
  fields-end ws at all n e = omega (arith, fields-end_from ws [] at all n e)
