-- Numbers that stand there in their form and are what they may be are read. Assumes nothing.
use Prim.Native.Nat.{ℕ, ◌+◌, ◌^◌, ◌<◌}
use native.Mathlib.Nat.{add-zero}
use native.Mathlib.Omega.{arith}
use mathlib.Core.Path.{◌≡◌, sym, ap, ap₂, ◌∙◌}
use mathlib.Core.List.{List, [], ◌∷◌, ◌++◌, append_assoc, append-nil}
use lib.ListN.{length, drop, length-append}
use Rattle.lists.specs.Lists.{each}
use Rattle.lists.proofs.Drops.{next_here}
use Rattle.numbers.specs.Numbers.{encode}
use Rattle.numbers.proofs.RoundTrip.{read_here}
use Rattle.table.specs.Verdicts.{good}
use Rattle.table.specs.declared.Wanted.{Wanted}
use Rattle.table.proofs.Fine.{Fine, AllFine, fine_good}
use Rattle.fields.specs.Stepping.{Step, go, ◌then◌, unless, asked, field_at, fields_at}
use Rattle.fields.proofs.Sizes.{Four}

-- a number that may stand there and stands there is read
pub field-here : (s : List ℕ) (w : Wanted) (v : ℕ) (rest : List ℕ) (at : ℕ) → w.high < 128 ^ 4 → Fine w v
    → drop at s ≡ encode v ++ rest
    → field_at s w at ≡ go v (at + length (encode v))
unfolding field_at asked unless good
field-here s w v rest at small f here =
    ap (asked w s at) (read_here s rest at v (omega (arith, f.most)) here) ∙ rw (fine_good w at v f)

-- a way to read one number: a number that stands there in its form, and is what it may be, is read
pub record Finds (s : List ℕ) (form : ℕ → List ℕ) (one : Wanted → ℕ → Step ℕ) : Type 0 where
  pub found : (w : Wanted) (v : ℕ) (rest : List ℕ) (at : ℕ) → w.high < 128 ^ 4 → Fine w v → drop at s ≡ form v ++ rest
      → one w at ≡ go v (at + length (form v))

-- as in a file
pub finds_in_file : (s : List ℕ) → Finds s encode (field_at s)
finds_in_file s = record { found = field-here s }

module _ {s : List ℕ} {form : ℕ → List ℕ} {one : Wanted → ℕ → Step ℕ} (finds : Finds s form one) where
  -- numbers one after another
  pub fields-here : (ws : List Wanted) (ns done rest : List ℕ) (at : ℕ) → Four ws → AllFine ws ns → drop at s ≡ each form ns ++ rest
      → fields_at one ws done at ≡ go (done ++ ns) (at + length (each form ns))
  unfolding Four AllFine each fields_at ◌then◌
  fields-here [] [] done rest at four f stand = ap₂ go (sym (append-nil done)) (sym (add-zero at))
  fields-here [] (n ∷ ns) done rest at four f stand = absurd f
  fields-here (w ∷ ws) [] done rest at four f stand = absurd f
  fields-here (w ∷ ws) (n ∷ ns) done rest at four f stand =
      let first : drop at s ≡ form n ++ (each form ns ++ rest) = stand ∙ append_assoc (form n) (each form ns) rest in
      let others : drop (at + length (form n)) s ≡ each form ns ++ rest = next_here s (form n) (each form ns ++ rest) at first in
      rw (finds.found w n (each form ns ++ rest) at four.0 f.0 first)
      (fields-here ws ns (done ++ (n ∷ [])) rest (at + length (form n)) four.1 f.1 others
      ∙ ap₂ go (append_assoc done (n ∷ []) ns) (rw length-append (omega arith)))
