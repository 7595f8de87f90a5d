-- Digits met one by one: the digits in front of a place of a text. Assumes nothing.
use Prim.Native.Nat.{ℕ, ◌+◌, ◌<◌}
use native.Mathlib.Numerals.{add-one}
use native.Mathlib.Omega.{arith}
use mathlib.Core.Path.{◌≡◌, refl, sym, ap, ◌∙◌}
use mathlib.Core.Logic.{⊎_elim}
use mathlib.Core.Bool.{true, false}
use mathlib.Core.List.{List, [], ◌∷◌}
use lib.ListN.{length, get_or, drop, drop_of_length-le}
use lib.Seq.{drop-cons}
use Rattle.lists.proofs.Tests.{either, by_test}
use Rattle.lists.proofs.Drops.{some_within}
use Rattle.text.specs.Numerals.{is_digit, digits_in}
use Rattle.text.proofs.Numerals.{digit_says}

module _ (s : List ℕ) (p : ℕ) where
  -- a digit stands within the text
  pub digit_inside : is_digit (get_or s p 0) ≡ true → p < length s
  digit_inside e = some_within s p _ refl (omega (arith, digit_says _ e))

  -- it is the first of them
  pub digits_more : is_digit (get_or s p 0) ≡ true → digits_in (drop p s) ≡ get_or s p 0 ∷ digits_in (drop (p + 1) s)
  unfolding digits_in
  digits_more e = rw (add-one, drop-cons s p 0 (digit_inside e), e)

  -- where none stands there is none
  pub digits_none : is_digit (get_or s p 0) ≡ false → digits_in (drop p s) ≡ []
  unfolding digits_in
  digits_none e = ⊎_elim (λ h. rw (drop-cons s p 0 h, e)) (λ past. rw (drop_of_length-le s past)) (either p (length s))

  -- the first of them, and the others behind it
  pub record DigitFirst (d : ℕ) (ds : List ℕ) : Type 0 where
    pub byte : get_or s p 0 ≡ d
    pub digit : is_digit (get_or s p 0) ≡ true
    pub others : digits_in (drop (p + 1) s) ≡ ds

  -- they stand there
  pub digit_first : (d : ℕ) (ds : List ℕ) → digits_in (drop p s) ≡ d ∷ ds → DigitFirst d ds
  digit_first d ds e =
      by_test (is_digit (get_or s p 0)) (λ t. let same = sym (digits_more t) ∙ e in record { byte = cc; digit = t; others = cc })
      (λ f. let none : [] ≡ d ∷ ds = sym (digits_none f) ∙ e in absurd (omega (arith, ap length none)))

  -- and where there are none, none does
  pub no_digit_first : digits_in (drop p s) ≡ [] → is_digit (get_or s p 0) ≡ false
  no_digit_first e =
      by_test (is_digit (get_or s p 0)) (λ t. absurd (omega (arith, ap length (sym (digits_more t) ∙ e)))) (λ f. f)
