-- Text put on a page piece by piece: room for the pieces, and what is left to put. Assumes nothing.
use Prim.Native.Nat.{ℕ, ◌+◌, ◌≤◌, ◌<◌}
use native.Mathlib.Omega.{arith}
use mathlib.Core.Path.{◌≡◌, refl, sym, ap, ◌∙◌}
use mathlib.Core.List.{List, [], ◌++◌, append_assoc, append-nil}
use lib.ListN.{length, drop, length-append}
use Rattle.lists.specs.Lists.{each, up_to}
use Rattle.lists.proofs.Counted.{each_more, each_none}
use Rattle.text.specs.Promises.{Fits}

-- the same text has the same room
pub fits_as : {a b written : List ℕ} {n : ℕ} → a ≡ b → Fits a written n → Fits b written n
fits_as e h = rw e at h

module _ (a b : List ℕ) {written : List ℕ} {n : ℕ} (h : Fits (a ++ b) written n) where
  -- the first piece of a text
  pub fits_first : Fits a written n
  fits_first = record { room = omega (arith, h.room, length-append {A = ℕ}) }

  -- and then the others
  pub fits_rest : Fits b (written ++ a) n
  fits_rest = record { room = omega (arith, h.room, length-append {A = ℕ}) }

-- `whole` is put behind `before`: what is written so far, and then what is left, are both
pub record Putting (whole before written rest : List ℕ) : Type 0 where
  pub same : before ++ whole ≡ written ++ rest

-- at first all is left
pub starts : (whole before : List ℕ) → Putting whole before before whole
starts whole before = record { same = refl }

module _ {whole before written rest : List ℕ} (k : Putting whole before written rest) where
  -- what is left has room
  pub rest_room : {n : ℕ} → Fits whole before n → Fits rest written n
  rest_room f = record { room = omega (arith, f.room, ap length k.same, length-append {A = ℕ}) }

  -- it begins with a piece: so has the piece
  pub room : (a more : List ℕ) → rest ≡ a ++ more → {n : ℕ} → Fits whole before n → Fits a written n
  room a more e f = fits_first a more (fits_as e (rest_room f))

  -- once it is put, the others are left
  pub turn : (a more : List ℕ) → rest ≡ a ++ more → {written' : List ℕ} → written' ≡ written ++ a → Putting whole before written' more
  turn a more e put = record { same = k.same ∙ rw (put, e, append_assoc written) }

  -- once the last piece is put too the whole is
  pub last : {written' : List ℕ} → written' ≡ written ++ rest → written' ≡ before ++ whole
  last put = put ∙ sym k.same

  -- once nothing is left
  pub ends : rest ≡ [] → written ≡ before ++ whole
  ends e = sym (k.same ∙ rw (e, append-nil))

-- what is left are the pieces from piece i on, n in all
module _ (f : ℕ → List ℕ) (n i : ℕ) {whole before written : List ℕ} (k : Putting whole before written (each f (drop i (up_to n)))) where
  -- the next piece has room
  pub piece_room : i < n → {m : ℕ} → Fits whole before m → Fits (f i) written m
  piece_room h = room k (f i) _ (each_more f n i h)

  -- and once it is put, the others are left
  pub piece_turn : i < n → {written' : List ℕ} → written' ≡ written ++ f i → Putting whole before written' (each f (drop (i + 1) (up_to n)))
  piece_turn h put = turn k (f i) _ (each_more f n i h) put

  -- past the last the whole is put
  pub pieces_end : n ≤ i → written ≡ before ++ whole
  pieces_end h = ends k (each_none f n i h)
