-- Text put into lent bytes piece by piece: what is still to be put, put where it goes, is the whole. Assumes nothing.
use Prim.Native.Nat.{ℕ, ◌+◌}
use native.Mathlib.Omega.{arith}
use mathlib.Core.Path.{◌≡◌, refl, sym, ap, ◌∙◌}
use mathlib.Core.List.{List, [], ◌∷◌, ◌++◌}
use lib.ListN.{length, set, length-append}
use lib.Seq.{sets, length-sets}
use Rattle.lists.proofs.Stores.{sets-append}
use Rattle.text.specs.Promises.{FitsAt, PutAt}

-- `whole` is put into out₀ at a place; as far as p it is done, and `rest` is left
pub record Putting (whole out₀ : List ℕ) (at : ℕ) (out : List ℕ) (p : ℕ) (rest : List ℕ) : Type 0 where
  pub fits : FitsAt rest p out
  pub long : length out ≡ length out₀
  pub size : at + length whole ≡ p + length rest
  pub same : sets out₀ at whole ≡ sets out p rest

-- at first all is left
pub starts : (whole out : List ℕ) (at : ℕ) → FitsAt whole at out → Putting whole out at out at whole
starts whole out at h = record { fits = h; long = refl; size = refl; same = refl }

-- the same text is put the same
pub put_as : {a b : List ℕ} {at : ℕ} {out : List ℕ} {q : ℕ} {out' : List ℕ}
    → a ≡ b → PutAt b at out q out' → PutAt a at out q out'
put_as e put = rw e put

-- one byte
pub byte_put : (out : List ℕ) (p b : ℕ) → PutAt (b ∷ []) p out (p + 1) (set out p b)
byte_put out p b = record { place = refl; stored = refl }

module _ {whole out₀ : List ℕ} {at : ℕ} {out : List ℕ} {p : ℕ} {rest : List ℕ} (k : Putting whole out₀ at out p rest) where
  -- what is left begins with a piece: it has room
  pub room : (a more : List ℕ) → rest ≡ a ++ more → FitsAt a p out
  room a more e = record { room = omega (arith, k.fits.room, ap length e, length-append a more) }

  -- and once it is put, the others are left
  pub turn : (a more : List ℕ) → rest ≡ a ++ more → {q : ℕ} {out' : List ℕ}
      → PutAt a p out q out' → Putting whole out₀ at out' q more
  turn a more e {q} {out'} put =
      let long : length out' ≡ length out = ap length put.stored ∙ length-sets out p a in
      let cut : length rest ≡ length a + length more = ap length e ∙ length-append a more in
      record {
        fits = record { room = omega (arith, k.fits.room, put.place) };
        long = long ∙ k.long;
        size = omega (arith, k.size, put.place);
        same = k.same ∙ ap (sets out p) e ∙ sets-append out p a more ∙ rw (put.stored, put.place);
      }

  -- once the last piece is put too the whole is
  pub last : {q : ℕ} {out' : List ℕ} → PutAt rest p out q out' → PutAt whole at out₀ q out'
  last put = record { place = omega (arith, k.size, put.place); stored = put.stored ∙ sym k.same }
