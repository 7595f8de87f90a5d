-- Laws of what numbers may be, taken one by one. Assumes nothing.
use Prim.Native.Nat.{ℕ, ◌+◌, ◌<◌}
use native.Mathlib.Numerals.{add-one}
use native.Mathlib.Omega.{arith}
use mathlib.Core.Path.{◌≡◌, refl, ap, ◌∙◌}
use mathlib.Core.Bool.{Bool, true, false, ◌||◌}
use mathlib.Core.Logic.{◌⊎◌, inl, inr}
use mathlib.Core.List.{List, [], ◌∷◌, ◌++◌}
use lib.ListN.{length, get_or, drop, replicate}
use lib.Dec.{ltb}
use lib.Seq.{drop-cons}
use Rattle.lists.specs.Lists.{pick}
use Rattle.table.specs.declared.Verdict.TheVariants.{Good, OutOfRange, TooManyTimes}
use Rattle.table.specs.Verdicts.{good, ◌or_else◌}
use Rattle.table.specs.declared.Wanted.{Wanted}
use Rattle.table.specs.declared.Verdict.{Verdict}
use Rattle.table.specs.Fields.{time, judge, fault_in}
use Rattle.table.proofs.Codes.{or_assoc}

-- one number more, or none
pub fault_more : (ws : List Wanted) (w : Wanted) (carried : ℕ) (ns : List ℕ) (i : ℕ) → drop i ws ≡ w ∷ drop (i + 1) ws → i < length ns
    → fault_in (drop i ws) carried (drop i ns)
    ≡ judge w carried (get_or ns i 0) or_else fault_in (drop (i + 1) ws) carried (drop (i + 1) ns)
unfolding fault_in
fault_more ws w carried ns i e h = rw (e, drop-cons ns i 0, add-one)

-- where there are no numbers, or none is wanted, there is no fault
pub fault_none : (ws : List Wanted) (carried : ℕ) (ns : List ℕ) → (ns ≡ []) ⊎ (ws ≡ []) → fault_in ws carried ns ≡ Good
unfolding fault_in
fault_none [] carried ns e = refl
fault_none (w ∷ ws) carried [] e = refl
fault_none (w ∷ ws) carried (n ∷ ns) (inl e) = cc
fault_none (w ∷ ws) carried (n ∷ ns) (inr e) = cc

-- after the first wanted numbers the others
pub fault-append : (ws vs : List Wanted) (carried : ℕ) (ns ms : List ℕ) → length ws ≡ length ns
    → fault_in (ws ++ vs) carried (ns ++ ms) ≡ fault_in ws carried ns or_else fault_in vs carried ms
unfolding fault_in
fault-append [] vs carried [] ms h = unfold ◌or_else◌ good in refl
fault-append [] vs carried (n ∷ ns) ms h = absurd (omega arith)
fault-append (w ∷ ws) vs carried [] ms h = absurd (omega arith)
fault-append (w ∷ ws) vs carried (n ∷ ns) ms h =
    ap (◌or_else◌ (judge w carried n)) (fault-append ws vs carried ns ms (omega arith))
    ∙ or_assoc (judge w carried n) (fault_in ws carried ns) (fault_in vs carried ms)

-- the fault of one number
pub fault-one : (w : Wanted) (carried n : ℕ) → fault_in (w ∷ []) carried (n ∷ []) ≡ judge w carried n
unfolding fault_in judge
fault-one w carried n = of_tests (ltb n w.low || ltb w.high n) (ltb w.left n)
  where
    of_tests : (a b : Bool) → pick a (OutOfRange carried) (pick b (TooManyTimes carried) Good) or_else Good
        ≡ pick a (OutOfRange carried) (pick b (TooManyTimes carried) Good)
    of_tests true b = unfold ◌or_else◌ good in refl
    of_tests false true = unfold ◌or_else◌ good in refl
    of_tests false false = unfold ◌or_else◌ good in refl

-- the first fault of times, which have one range
abbrev pub times_fault : ℕ → List ℕ → Verdict
times_fault carried ns = fault_in (replicate (length ns) time) carried ns

-- one time more, or none
pub times_more : (carried : ℕ) (ns : List ℕ) (i : ℕ) → i < length ns
    → times_fault carried (drop i ns) ≡ judge time carried (get_or ns i 0) or_else times_fault carried (drop (i + 1) ns)
unfolding fault_in
times_more carried ns i h = rw (drop-cons ns i 0, add-one)
