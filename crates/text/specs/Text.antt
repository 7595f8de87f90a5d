-- Numbers and words as printed, in ASCII.
use Rattle.std.specs.Prelude.{ℕ, zero, suc, ◌+◌, ◌/◌, ◌%◌, ◌≤◌, ◌<◌, ◌≡◌, List, [], ◌∷◌, ◌++◌, eqb, ltb}
use Rattle.lists.specs.Lists.{pick, each}

abbrev pub space : ℕ
space = 32

abbrev pub line_feed : ℕ
line_feed = 10

-- the code of a digit
abbrev pub digit : ℕ → ℕ
digit d = 48 + d

-- at most k digits of a number
unfoldable pub decimal_in : ℕ → ℕ → List ℕ
decimal_in zero n = []
decimal_in (suc k) n = pick (ltb n 10) (digit n ∷ []) (decimal_in k (n / 10) ++ (digit (n % 10) ∷ []))

-- a number in decimal, with no zeros in front; `Decimal` says what is meant
unfoldable pub decimal : ℕ → List ℕ
decimal n = decimal_in (suc n) n

-- a number below 10 is one digit; another is that of its tenth, rounded down, and one digit more
pub record Decimal : Type 0 where
  pub one : (n : ℕ) → n < 10 → decimal n ≡ digit n ∷ []
  pub more : (n : ℕ) → 10 ≤ n → decimal n ≡ decimal (n / 10) ++ (digit (n % 10) ∷ [])

-- words with a byte between every two, and an end behind the last
unfoldable pub joined : ℕ → List ℕ → List (List ℕ) → List ℕ
joined between end [] = end
joined between end (w ∷ []) = w ++ end
joined between end (w ∷ v ∷ ws) = w ++ (between ∷ []) ++ joined between end (v ∷ ws)

-- words separated by one space and ended by one line feed
abbrev pub line : List (List ℕ) → List ℕ
line ws = joined space (line_feed ∷ []) ws

-- a byte in front of lines belongs to the first
unfoldable pub in_first : ℕ → List (List ℕ) → List (List ℕ)
in_first b [] = (b ∷ []) ∷ []
in_first b (l ∷ ls) = (b ∷ l) ∷ ls

-- the lines of a text in order, each with the line feed that ends it
unfoldable pub lines_in : List ℕ → List (List ℕ)
lines_in [] = []
lines_in (b ∷ bs) = pick (eqb b line_feed) ((b ∷ []) ∷ lines_in bs) (in_first b (lines_in bs))

-- one after another they are the text
abbrev pub LinesAreTheText : Type 0
LinesAreTheText = (text : List ℕ) → each (λ l. l) (lines_in text) ≡ text
