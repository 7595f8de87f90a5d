-- Document 01, "The file": numbers in groups of seven bits, low group first, the high bit set on every byte but the last,
-- shortest form only.
use Rattle.std.specs.Prelude.{ℕ, zero, suc, ◌+◌, ◌-◌, ◌*◌, ◌/◌, ◌%◌, ◌<◌, ◌≡◌, List, [], ◌∷◌, Bool, true, false, length, drop, get_or, ltb}
use Rattle.std.proofs.lemmas.List.Edits.{sets}
use Rattle.lists.specs.Lists.{pick, each}

-- each is a byte
abbrev pub Bytes : List ℕ → Type 0
Bytes s = (i : ℕ) → get_or s i 0 < 256

-- what stands at a place of a file: a number and where the next begins, or why there is none
pub data Number : Type 0 where
  Got : ℕ → ℕ → Number
  EndsEarly : Number
  Malformed : Number

-- a number whose low groups are `value`, the next one at `weight`, after `used` bytes
abbrev pub after : ℕ → ℕ → ℕ → Number → Number
after value weight used (Got v n) = Got (value + weight * v) (used + n)
after value weight used EndsEarly = EndsEarly
after value weight used Malformed = Malformed

-- the last byte of a number: 0 only where it is the only one
abbrev pub last : Bool → ℕ → Number
last alone b = pick alone (Got b 1) (pick (ltb 0 b) (Got b 1) Malformed)

-- at most k more bytes of a number; `alone` at its first byte
unfoldable pub groups : Bool → ℕ → List ℕ → Number
groups alone zero s = Malformed
groups alone (suc k) [] = EndsEarly
groups alone (suc k) (b ∷ s) = pick (ltb b 128) (last alone b) (after (b - 128) 128 1 (groups false k s))

-- the number that begins at a place: at most four bytes
unfoldable pub number_at : List ℕ → ℕ → Number
number_at s at = after 0 1 at (groups true 4 (drop at s))

-- a number below 128 ^ k in its shortest form
unfoldable pub encode_in : ℕ → ℕ → List ℕ
encode_in zero n = []
encode_in (suc k) n = pick (ltb n 128) (n ∷ []) ((128 + n % 128) ∷ encode_in k (n / 128))

-- the shortest form of a 32-bit number: encode n ≡ n ∷ [] below 128, and else (128 + n % 128) ∷ encode (n / 128)
unfoldable pub encode : ℕ → List ℕ
encode n = encode_in 5 n

-- numbers one after another
abbrev pub encode_all : List ℕ → List ℕ
encode_all ns = each encode ns

-- a number is put at the front of lent bytes, as far as they reach
pub record Put (v : ℕ) (out : List ℕ) (r : ℕ) (out' : List ℕ) : Type 0 where
  pub size : r ≡ length (encode v)
  pub bytes : out' ≡ sets out 0 (encode v)
