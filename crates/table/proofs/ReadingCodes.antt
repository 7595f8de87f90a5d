-- The faults of a table and of a number are verdicts that reading a file gives. Assumes nothing.
use Prim.Native.Nat.{ℕ, suc, ◌+◌}
use mathlib.Core.Path.{◌≡◌, refl}
use mathlib.Core.Bool.{Bool, true, false, ◌||◌}
use mathlib.Core.List.{List, [], ◌∷◌}
use native.Mathlib.Omega.{arith}
use lib.ListN.{length, drop, replicate}
use lib.Dec.{ltb}
use Rattle.lists.specs.Lists.{pick}
use Rattle.lists.proofs.Tests.{never}
use Rattle.table.specs.declared.Row.{Row}
use Rattle.table.specs.Rules.{Rule}
use Rattle.table.specs.Rules as R
use Rattle.table.specs.declared.Table.{Table}
use Rattle.table.specs.declared.Verdict.{Verdict}
use Rattle.table.specs.declared.Verdict.TheVariants.{Good, EndsEarly, Malformed, OutOfRange, IdTwice, PriorityTwice}
use Rattle.table.specs.declared.Verdict.TheVariants.{KindsCrossed, TooManyTimes, Trailing, NoSuchCore, NoRoom, NoWindow, Missed}
use Rattle.table.specs.declared.Verdict.TheVariants.{UnknownStep, BadText}
use Rattle.table.specs.Verdicts.{code_of, good, reading, ◌or_else◌}
use Rattle.table.specs.declared.Wanted.{Wanted}
use Rattle.table.specs.Fields.{head, time, fields_of, judge, fault_in}
use Rattle.table.specs.Memory.{used_rows}
use Rattle.table.specs.Clash.{breaks, clash, rule_verdict, broken, clash_of}
use Rattle.table.specs.Faults.{row_fault, rows_fault, fault_of}
use Rattle.table.proofs.Codes.{is_good}

-- one of two
pick-reading : (b : Bool) (v w : Verdict) → reading v ≡ true → reading w ≡ true → reading (pick b v w) ≡ true
pick-reading true v w p q = p
pick-reading false v w p q = q

-- the first fault
or-reading : (v w : Verdict) → reading v ≡ true → reading w ≡ true → reading (v or_else w) ≡ true
unfolding ◌or_else◌
or-reading v w p q = pick-reading (good v) w v q p

-- a number's own fault
pub judge-reading : (w : Wanted) (carried n : ℕ) → reading (judge w carried n) ≡ true
unfolding judge
judge-reading w carried n =
    pick-reading (ltb n w.low || ltb w.high n) (OutOfRange carried) _ refl
    (pick-reading (ltb w.left n) (TooManyTimes carried) Good refl refl)

-- numbers one after another
faults_reading : (ws : List Wanted) (carried : ℕ) (ns : List ℕ) → reading (fault_in ws carried ns) ≡ true
unfolding fault_in
faults_reading [] carried ns = refl
faults_reading (w ∷ ws) carried [] = refl
faults_reading (w ∷ ws) carried (n ∷ ns) = or-reading (judge w carried n) _ (judge-reading w carried n) (faults_reading ws carried ns)

-- rows one after another
rows-reading : (i used : ℕ) (rows : List Row) (times : List ℕ) → reading (rows_fault i used rows times) ≡ true
unfolding rows_fault row_fault
rows-reading i used [] times = refl
rows-reading i used (r ∷ rs) times =
    or-reading _ _
    (or-reading _ _ (faults_reading (head used) i (fields_of r)) (faults_reading (replicate r.parts time) i _))
    (rows-reading (suc i) (used + r.parts) rs (drop r.parts times))

-- a rule's verdict
rule-reading : (rule : Rule) (rows : List Row) → reading (broken rule rows) ≡ true
unfolding broken
rule-reading rule rows = pick-reading (ltb (clash (breaks rule) rows) (length rows)) _ Good (of-rule rule _) refl
  where
    of-rule : (rule : Rule) (n : ℕ) → reading (rule_verdict rule n) ≡ true
    of-rule R.SameId n = refl
    of-rule R.SamePriority n = refl
    of-rule R.KindsCrossed n = refl

-- the rules over the whole table
pub clash-reading : (rows : List Row) → reading (clash_of rows) ≡ true
unfolding clash_of
clash-reading rows =
    or-reading _ _ (rule-reading R.SameId rows) (or-reading _ _ (rule-reading R.SamePriority rows) (rule-reading R.KindsCrossed rows))

-- the whole table
pub fault-reading : (t : Table) → reading (fault_of t) ≡ true
unfolding fault_of
fault-reading t =
    pick-reading (ltb 64 t.count) (OutOfRange 64) _ refl
    (or-reading _ _ (rows-reading 0 0 (used_rows t) t.times) (clash-reading (used_rows t)))

-- ---- a verdict of reading that is no good one

pub record RefusedReading (v : Verdict) : Type 0 where
  pub fault : good v ≡ false
  pub read : reading v ≡ true

-- its code is not 0
pub refused-not_0 : (v : Verdict) → RefusedReading v → code_of v ≡ 0 → ⊥
refused-not_0 v r e = never (is_good v e) r.fault

-- nor 12
pub refused-not_12 : (v : Verdict) → RefusedReading v → code_of v ≡ 12 → ⊥
refused-not_12 v r = by v r.read
  where
    by : (w : Verdict) → reading w ≡ true → code_of w ≡ 12 → ⊥
    by Good q e = omega arith
    by (EndsEarly n) q e = omega arith
    by (Malformed n) q e = omega arith
    by (OutOfRange n) q e = omega arith
    by (IdTwice n) q e = omega arith
    by (PriorityTwice n) q e = omega arith
    by (KindsCrossed n) q e = omega arith
    by (TooManyTimes n) q e = omega arith
    by (Trailing n) q e = omega arith
    by (NoSuchCore n) q e = omega arith
    by (NoRoom n) q e = omega arith
    by (NoWindow n) q e = omega arith
    by (Missed n) q e = never q refl
    by (UnknownStep n) q e = omega arith
    by (BadText n) q e = omega arith
