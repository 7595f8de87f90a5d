-- The lines of a text that is put together of whole lines are these. Assumes nothing.
use Prim.Native.Nat.{ℕ, zero, suc, ◌+◌, ◌/◌, ◌%◌}
use native.Mathlib.Omega.{arith}
use borrow.Author.Tests.{ne_eqb}
use mathlib.Core.Path.{◌≡◌, refl, ap, ◌∙◌}
use mathlib.Core.Bool.{Bool, false}
use mathlib.Core.List.{List, [], ◌∷◌, ◌++◌, map, append_assoc, append-nil}
use lib.Dec.{eqb, ltb}
use Rattle.lists.specs.Lists.{any, each, listed}
use Rattle.lists.proofs.Tests.{by_test}
use Rattle.lists.proofs.Anys.{none_cons, none_append}
use Rattle.text.specs.Text.{space, line_feed, digit, decimal_in, decimal, joined, line, in_first, lines_in, LinesAreTheText}

-- one after another, the lines of a text are the text
pub lines_are_the_text : LinesAreTheText
unfolding lines_in in_first each
lines_are_the_text [] = refl
lines_are_the_text (b ∷ bs) =
    by_test (eqb b line_feed) (λ e. rw (e, lines_are_the_text bs))
    (λ e. rw e (in_first_lem (lines_in bs) ∙ ap (◌∷◌ b) (lines_are_the_text bs)))
  where
    in_first_lem : (ls : List (List ℕ)) → each (λ l. l) (in_first b ls) ≡ b ∷ each (λ l. l) ls
    in_first_lem [] = refl
    in_first_lem (l ∷ ls) = refl

-- ---- words

-- a byte is a line feed
abbrev pub is_feed : ℕ → Bool
is_feed b = eqb b line_feed

-- one of some words has a line feed
abbrev pub has_feed : List (List ℕ) → Bool
has_feed ws = any (any is_feed) ws

-- a number has none
decimal_in_plain : (k n : ℕ) → any is_feed (decimal_in k n) ≡ false
unfolding decimal_in any
decimal_in_plain zero n = refl
decimal_in_plain (suc k) n =
    by_test (ltb n 10) (λ e. rw (e, other n))
    (λ e. rw e (none_append is_feed (decimal_in k (n / 10)) (digit (n % 10) ∷ []) (decimal_in_plain k (n / 10)) (rw (other (n % 10)))))
  where
    other : (d : ℕ) → is_feed (digit d) ≡ false
    other d = ne_eqb (48 + d) 10 (λ e. omega arith)

-- of any length
pub decimal_plain : (n : ℕ) → any is_feed (decimal n) ≡ false
unfolding decimal
decimal_plain n = decimal_in_plain (suc n) n

-- nor have numbers
pub decimals_plain : (ns : List ℕ) → has_feed (map decimal ns) ≡ false
unfolding any
decimals_plain [] = refl
decimals_plain (n ∷ ns) = rw (decimal_plain n) (decimals_plain ns)

-- ---- lines

-- bytes without a line feed belong to the first line behind them
longer_line : (w rest l : List ℕ) (ls : List (List ℕ)) → any is_feed w ≡ false → lines_in rest ≡ l ∷ ls
    → lines_in (w ++ rest) ≡ (w ++ l) ∷ ls
unfolding lines_in in_first
longer_line [] rest l ls e q = q
longer_line (b ∷ w) rest l ls e q =
    let n = none_cons is_feed b w e in
    rw (n.0, longer_line w rest l ls n.1 q)

-- a text is these whole lines, whatever stands behind it
pub record InLines (text : List ℕ) (ls : List (List ℕ)) : Type 0 where
  pub lines : (rest : List ℕ) → lines_in (text ++ rest) ≡ ls ++ lines_in rest

-- a line of words without line feeds is one
pub line_alone : (w : List ℕ) (ws : List (List ℕ)) → has_feed (w ∷ ws) ≡ false → InLines (line (w ∷ ws)) (line (w ∷ ws) ∷ [])
unfolding joined lines_in in_first
line_alone w [] e =
    let plain = (none_cons (any is_feed) w [] e).0 in
    record { lines = λ rest. rw append_assoc (longer_line w (line_feed ∷ rest) (line_feed ∷ []) (lines_in rest) plain refl) }
line_alone w (v ∷ ws) e =
    let n = none_cons (any is_feed) w (v ∷ ws) e in
    let others : (rest : List ℕ) → lines_in (space ∷ (line (v ∷ ws) ++ rest)) ≡ (space ∷ line (v ∷ ws)) ∷ lines_in rest
    = λ rest. rw ((line_alone v ws n.1).lines rest) in
    record { lines = λ rest. simp append_assoc (longer_line w (space ∷ (line (v ∷ ws) ++ rest)) _ (lines_in rest) n.0 (others rest)) }

-- ---- texts

-- nothing is no line
pub no_line : InLines [] []
no_line = record { lines = λ rest. refl }

-- two texts are the lines of the first, then those of the second
pub append_lines : {a b : List ℕ} {ls ms : List (List ℕ)} → InLines a ls → InLines b ms → InLines (a ++ b) (ls ++ ms)
append_lines {a} {b} {ls} {ms} p q =
    record {
      lines =
          λ rest. rw (append_assoc a b rest, append_assoc ls ms (lines_in rest)) (p.lines (b ++ rest) ∙ ap (◌++◌ ls) (q.lines rest));
    }

-- texts one after another, each with its lines
pub each_lines : {A : Type 0} (f : A → List ℕ) (g : A → List (List ℕ)) → ((x : A) → InLines (f x) (g x)) → (xs : List A)
    → InLines (each f xs) (each g xs)
unfolding each
each_lines f g h [] = no_line
each_lines f g h (x ∷ xs) = append_lines (h x) (each_lines f g h xs)

-- lines one after another
pub counted_lines : (f : ℕ → List ℕ) → ((k : ℕ) → InLines (f k) (f k ∷ [])) → (h : ℕ → ℕ) (n : ℕ)
    → InLines (each f (listed h n)) (listed (λ k. f (h k)) n)
unfolding each listed
counted_lines f one h zero = no_line
counted_lines f one h (suc n) = append_lines (one (h 0)) (counted_lines f one (λ i. h (suc i)) n)

-- all lines of a text that is whole lines
pub all_lines : {text : List ℕ} {ls : List (List ℕ)} → InLines text ls → lines_in text ≡ ls
unfolding lines_in
all_lines {text} {ls} c = simp append-nil at (c.lines [])
