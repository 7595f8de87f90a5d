-- How looking at rows in order finds the first clash, for any test, and what a rule says then. Assumes nothing.
use Prim.Native.Nat.{ℕ, zero, suc, ◌+◌, ◌≤◌, ◌<◌}
use native.Mathlib.Numerals.{add-one}
use native.Mathlib.Omega.{arith}
use borrow.Author.Tests.{lt-ltb, le-ltb}
use mathlib.Core.Path.{◌≡◌, sym, ap, ◌∙◌}
use mathlib.Core.List.{List, [], ◌∷◌, ◌++◌}
use mathlib.Core.Bool.{Bool, true, false}
use lib.Dec.{ltb}
use lib.ListN.{length, get_or, take, drop, drop_of_length-le}
use lib.Seq.{drop-cons, take-suc}
use Rattle.std.specs.Prelude.{Option, Some, None}
use Rattle.std.specs.Bool.{then_some}
use Rattle.std.specs.Option.{option_or}
use Rattle.lists.specs.Lists.{pick, any}
use Rattle.lists.proofs.Tests.{by_test}
use Rattle.table.specs.declared.Row.{Row}
use Rattle.table.specs.declared.Verdict.{Verdict}
use Rattle.table.specs.declared.Verdict.TheVariants.{Good}
use Rattle.table.specs.Rules.{Rule}
use Rattle.table.specs.Rules as R
use Rattle.table.specs.Verdicts.{◌or_else◌}
use Rattle.table.specs.Memory.{zero_row}
use Rattle.table.specs.Clash.{breaks, clash_after, clash, rule_verdict, broken, clash_of}
use Rattle.table.specs.Promises.{first_of}

-- place k, where it is one of n
abbrev place_of : ℕ → ℕ → Option ℕ
place_of n k = pick (ltb k n) (Some k) None

-- the first row from row i on that clashes with an earlier one
abbrev pub first_from : (Row → Row → Bool) → List Row → ℕ → Option ℕ
first_from f rows i = place_of (length rows) (i + clash_after f (take i rows) (drop i rows))

-- row i is behind those before it
pub one_more : (rows : List Row) (i : ℕ) → i < length rows → take (i + 1) rows ≡ take i rows ++ (get_or rows i zero_row ∷ [])
one_more rows i inside = rw add-one (take-suc rows i zero_row inside)

module _ (f : Row → Row → Bool) (rows : List Row) where
  -- from the first row on it is the first of all
  pub first_start : first_of f rows ≡ first_from f rows 0
  first_start = ap (place_of (length rows)) (omega arith)

  module _ (i : ℕ) where
    -- past the last row there is none
    pub first_past : length rows ≤ i → first_from f rows i ≡ None
    unfolding clash_after
    first_past h = rw (drop_of_length-le rows h, le-ltb (i + 0) (length rows) (omega arith))

    module _ (inside : i < length rows) where
      -- row i against the earlier ones, then the others
      step : clash_after f (take i rows) (drop i rows)
          ≡ pick (any (f (get_or rows i zero_row)) (take i rows)) zero (suc (clash_after f (take (i + 1) rows) (drop (i + 1) rows)))
      unfolding clash_after
      step = rw (one_more rows i inside, add-one, drop-cons rows i zero_row inside)

      -- row i clashes, or the first is a later one
      pub first_step : (b : Bool) → b ≡ any (f (get_or rows i zero_row)) (take i rows)
          → first_from f rows i ≡ option_or (then_some b i) (first_from f rows (i + 1))
      first_step true e =
          let here : i + clash_after f (take i rows) (drop i rows) ≡ i = omega (arith, rw (← e) at step) in
          rw (here, lt-ltb i (length rows) inside)
      first_step false e = ap (place_of (length rows)) (omega (arith, rw (← e) at step))

-- of these rows those before row j are looked at: whether one passes the test is up to the others
abbrev pub Inner : (Row → Bool) → List Row → ℕ → Type 0
Inner p rows j = any p rows ≡ any p (drop j rows)

module _ (p : Row → Bool) (rows : List Row) (j : ℕ) (none : Inner p rows j) where
  -- row j, then the others
  looked : j < length rows → any p rows ≡ pick (p (get_or rows j zero_row)) true (any p (drop (j + 1) rows))
  unfolding any
  looked h = none ∙ rw (add-one, drop-cons rows j zero_row h)

  -- it does not pass
  pub inner_next : j < length rows → p (get_or rows j zero_row) ≡ false → Inner p rows (j + 1)
  inner_next h e = looked h ∙ rw e

  -- it passes
  pub inner_here : j < length rows → p (get_or rows j zero_row) ≡ true → true ≡ any p rows
  inner_here h e = sym (looked h ∙ rw e)

  -- there are no others
  pub inner_past : length rows ≤ j → false ≡ any p rows
  unfolding any
  inner_past h = sym (none ∙ rw (drop_of_length-le rows h))

-- what a rule says of the first row that breaks it
abbrev pub verdict_by : Rule → Option ℕ → Verdict
verdict_by rule None = Good
verdict_by rule (Some row) = rule_verdict rule row

-- a rule's verdict goes by that row
broken-by : (rule : Rule) (rows : List Row) → broken rule rows ≡ verdict_by rule (first_of (breaks rule) rows)
unfolding broken
broken-by rule rows = by_test (ltb (clash (breaks rule) rows) (length rows)) (λ y. rw y) (λ n. rw n)

-- and so do those of all the rules
pub clash-by : (rows : List Row) → clash_of rows
    ≡ verdict_by R.SameId (first_of (breaks R.SameId) rows)
    or_else (verdict_by R.SamePriority (first_of (breaks R.SamePriority) rows)
    or_else verdict_by R.KindsCrossed (first_of (breaks R.KindsCrossed) rows))
unfolding clash_of
clash-by rows = rw (broken-by R.SameId rows, broken-by R.SamePriority rows, broken-by R.KindsCrossed rows)
