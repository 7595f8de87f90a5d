-- Inner: bytes behind what is written, and bytes at a place of lent bytes, as the functions on the way promise each other.
use Rattle.std.specs.Prelude.{ℕ, ◌+◌, ◌≤◌, ◌≡◌, List, length}
use Rattle.std.proofs.lemmas.List.Edits.{sets}

-- bytes have room behind what is written, in n bytes
pub record Fits (bytes written : List ℕ) (n : ℕ) : Type 0 where
  pub room : length written + length bytes ≤ n

-- bytes have room in lent bytes from a place on
pub record FitsAt (bytes : List ℕ) (at : ℕ) (out : List ℕ) : Type 0 where
  pub room : at + length bytes ≤ length out

-- they are put there, all others stay, and r is where they end
pub record PutAt (bytes : List ℕ) (at : ℕ) (out : List ℕ) (r : ℕ) (out' : List ℕ) : Type 0 where
  pub place : r ≡ at + length bytes
  pub stored : out' ≡ sets out at bytes
