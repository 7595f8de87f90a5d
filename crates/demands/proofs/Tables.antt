-- A table in memory is refused exactly when its rules say so. Assumes nothing.
use Prim.Native.Nat.{ℕ, suc, ◌+◌, ◌≤◌, ◌<◌}
use native.Mathlib.Omega.{arith}
use borrow.Author.Tests.{lt-ltb, le-ltb}
use mathlib.Core.Path.{◌≡◌, refl, sym, ap, subst, ◌∙◌}
use mathlib.Core.Logic.{◌⊎◌, inl, inr, ⊎_elim}
use mathlib.Core.List.{List, [], ◌∷◌}
use lib.ListN.{length, drop}
use Rattle.lists.proofs.Tests.{either}
use Rattle.table.specs.declared.Row.{Row}
use Rattle.table.specs.declared.Table.{Table}
use Rattle.table.specs.declared.Verdict.{Verdict}
use Rattle.table.specs.declared.Verdict.TheVariants as C
use Rattle.table.specs.Verdicts.{code_of, good, ◌or_else◌}
use Rattle.table.specs.declared.Wanted.{Wanted}
use Rattle.table.specs.Fields.{head, fields_of, judge, fault_in}
use Rattle.table.specs.Memory.{used_rows}
use Rattle.table.specs.Faults.{row_fault, rows_fault, fault_of}
use Rattle.table.proofs.ReadingCodes.{RefusedReading}
use Rattle.table.proofs.Codes.{or-good, is_fault}
use Rattle.table.proofs.FieldRanges.{fault-append}
use Rattle.demands.specs.Reached.{MayBe}
use Rattle.demands.specs.Tables.{row_wants, row_has, InRow, RowFine, InRows, InTable, TableRule}
use Rattle.demands.proofs.Reached.{may_good}
use Rattle.demands.proofs.NumberRule.{out_judged, over_judged, Judged, judged}
use Rattle.demands.proofs.ClashRule.{rule_clashes, clashes_rule, clash-code}

-- ---- one number

-- a number is what it may be or not
may_or-not : (w : Wanted) (x : ℕ) → MayBe w x ⊎ (MayBe w x → ⊥)
may_or-not w x = by (judged w x)
  where
    by : Judged w x → MayBe w x ⊎ (MayBe w x → ⊥)
    by (Judged.out n) = inr (λ m. n m.range)
    by (Judged.over r h) = inr (λ m. omega (arith, m.left))
    by (Judged.may m) = inl m

-- ---- a row's numbers

-- a fault is the first one
pub fault_first : (v w : Verdict) → (code_of v ≡ 0 → ⊥) → v or_else w ≡ v
unfolding ◌or_else◌
fault_first v w f = rw (is_fault v f)

-- a number at fault behind others that are not
row_bad : {ws : List Wanted} {xs : List ℕ} {w : Wanted} {x : ℕ} (n : ℕ) → InRow ws xs w x → (code_of (judge w n x) ≡ 0 → ⊥)
    → fault_in ws n xs ≡ judge w n x
unfolding fault_in
row_bad n InRow.here f = fault_first _ _ f
row_bad n (InRow.more {w = w} {x = x} m r) f = or-good (judge w n x) _ (ap code_of (may_good w n x m)) ∙ row_bad n r f

-- no number at fault
row_fine : (ws : List Wanted) (n : ℕ) (xs : List ℕ) → RowFine ws xs → fault_in ws n xs ≡ C.Good
unfolding fault_in
row_fine [] n xs f = refl
row_fine (w ∷ ws) n [] f = refl
row_fine (w ∷ ws) n (x ∷ xs) f =
    let m = f w x InRow.here in
    or-good (judge w n x) _ (ap code_of (may_good w n x m)) ∙ row_fine ws n xs (λ u y r. f u y (InRow.more m r))

-- a row's fields and times are at fault as one list
row_fault_lem : (i used : ℕ) (r : Row) (times : List ℕ) → row_fault i used r times ≡ fault_in (row_wants used r) i (row_has r times)
unfolding row_fault head
row_fault_lem i used r times = sym (fault-append (head used) _ i (fields_of r) _ refl)

-- ---- the rows' numbers

-- a number at fault behind rows that are fine
rows_bad : {i used n : ℕ} {rows : List Row} {times : List ℕ} {w : Wanted} {x : ℕ} → InRows i used rows times n w x
    → (code_of (judge w n x) ≡ 0 → ⊥) → rows_fault i used rows times ≡ judge w n x
unfolding rows_fault
rows_bad (InRows.this {i = i} {used = used} {r = r} {times = times} a) f =
    let here = row_fault_lem i used r times ∙ row_bad i a f in
    fault_first _ _ (λ e. f (ap code_of (sym here) ∙ e)) ∙ here
rows_bad (InRows.later {i = i} {used = used} {r = r} {times = times} a b) f =
    or-good _ _ (ap code_of (row_fault_lem i used r times ∙ row_fine _ i _ a)) ∙ rows_bad b f

-- no number at fault
rows_fine : (i used : ℕ) (rows : List Row) (times : List ℕ)
    → ((n x : ℕ) (w : Wanted) → InRows i used rows times n w x → MayBe w x) → rows_fault i used rows times ≡ C.Good
unfolding rows_fault
rows_fine i used [] times f = refl
rows_fine i used (r ∷ rs) times f =
    let own : RowFine (row_wants used r) (row_has r times) = λ w x a. f i x w (InRows.this a) in
    or-good _ _ (ap code_of (row_fault_lem i used r times ∙ row_fine _ i _ own))
    ∙ rows_fine (suc i) (used + r.parts) rs (drop r.parts times) (λ n x w a. f n x w (InRows.later own a))

-- ---- the first number at fault, where there is one

-- a number of a row stands in it
in_some : {ws : List Wanted} {xs : List ℕ} {w : Wanted} {x : ℕ} → InRow ws xs w x → (0 < length ws) × (0 < length xs)
in_some InRow.here = omega arith
in_some (InRow.more m r) = omega arith

-- one is what it may be and all behind it are
fine_more : (w : Wanted) (ws : List Wanted) (x : ℕ) (xs : List ℕ) → MayBe w x → RowFine ws xs → RowFine (w ∷ ws) (x ∷ xs)
fine_more w ws x xs m f u y InRow.here = m
fine_more w ws x xs m f u y (InRow.more k r) = f u y r

-- a row has none, or a first one
row_split : (ws : List Wanted) (xs : List ℕ) → RowFine ws xs ⊎ ((w : Wanted) × (x : ℕ) × InRow ws xs w x × (MayBe w x → ⊥))
row_split [] xs = inl (λ w x r. absurd (omega (arith, (in_some r).0)))
row_split (w ∷ ws) [] = inl (λ u x r. absurd (omega (arith, (in_some r).1)))
row_split (w ∷ ws) (x ∷ xs) =
    ⊎_elim
    (λ m.
    ⊎_elim (λ f. inl (fine_more w ws x xs m f)) (λ b. inr (b.0, b.1, InRow.more m b.2, b.3)) (row_split ws xs))
    (λ b. inr (w, x, InRow.here, b))
    (may_or-not w x)

-- rows without one
abbrev RowsFine : ℕ → ℕ → List Row → List ℕ → Type 0
RowsFine i used rows times = (n x : ℕ) (w : Wanted) → InRows i used rows times n w x → MayBe w x

-- a number of rows stands in one of them
in_one : {i used n : ℕ} {rows : List Row} {times : List ℕ} {w : Wanted} {x : ℕ} → InRows i used rows times n w x → 0 < length rows
in_one (InRows.this a) = omega arith
in_one (InRows.later a b) = omega arith

-- one row is fine and all behind it are
rows_more : (i used : ℕ) (r : Row) (rs : List Row) (times : List ℕ) → RowFine (row_wants used r) (row_has r times)
    → RowsFine (suc i) (used + r.parts) rs (drop r.parts times) → RowsFine i used (r ∷ rs) times
rows_more i used r rs times own f n x w (InRows.this a) = own w x a
rows_more i used r rs times own f n x w (InRows.later a b) = f n x w b

-- rows have none, or a first one
rows_split : (i used : ℕ) (rows : List Row) (times : List ℕ)
    → RowsFine i used rows times ⊎ ((n : ℕ) × (w : Wanted) × (x : ℕ) × InRows i used rows times n w x × (MayBe w x → ⊥))
rows_split i used [] times = inl (λ n x w a. absurd (omega (arith, in_one a)))
rows_split i used (r ∷ rs) times =
    ⊎_elim
    (λ own.
    ⊎_elim (λ f. inl (rows_more i used r rs times own f)) (λ b. inr (b.0, b.1, b.2, InRows.later own b.3, b.4))
    (rows_split (suc i) (used + r.parts) rs (drop r.parts times)))
    (λ b. inr (i, b.0, b.1, InRows.this b.2, b.3))
    (row_split (row_wants used r) (row_has r times))

-- ---- the table

module _ (t : Table) where
  -- with a row count in range the first number at fault is named
  bad_said : {n x : ℕ} {w : Wanted} (v : Verdict) → t.count ≤ 64 → InTable t n w x → judge w n x ≡ v
      → (code_of v ≡ 0 → ⊥) → fault_of t ≡ v
  unfolding fault_of
  bad_said v h a j f =
      let bad = rows_bad a (λ e. f (ap code_of (sym j) ∙ e)) ∙ j in
      rw (le-ltb 64 t.count h, bad) (fault_first v _ f)

  -- what a rule says is said
  pub rule-fault : {v : Verdict} → TableRule t v → fault_of t ≡ v
  unfolding fault_of
  rule-fault (TableRule.count h) = rw (lt-ltb 64 t.count h)
  rule-fault (TableRule.out {n = n} {x = x} {w = w} h a o) = bad_said (C.OutOfRange n) h a (out_judged w n x o) (λ e. omega arith)
  rule-fault (TableRule.too_many {n = n} {x = x} {w = w} h a r o) =
      bad_said (C.TooManyTimes n) h a (over_judged w n x r o) (λ e. omega arith)
  rule-fault (TableRule.rows h f c) =
      rw (le-ltb 64 t.count h)
      (or-good _ _ (ap code_of (rows_fine 0 0 (used_rows t) t.times f)) ∙ rule_clashes (used_rows t) c)

  -- a number at fault is out of its range, or above what is left
  bad_rule : t.count ≤ 64 → (n : ℕ) (w : Wanted) (x : ℕ) → InTable t n w x → (MayBe w x → ⊥) → (v : Verdict) × TableRule t v
  bad_rule h n w x a b = by (judged w x)
    where
      by : Judged w x → (v : Verdict) × TableRule t v
      by (Judged.out o) = (_, TableRule.out h a o)
      by (Judged.over r o) = (_, TableRule.too_many h a r o)
      by (Judged.may m) = absurd (b m)

  -- some rule holds
  some_rule : (v : Verdict) × TableRule t v
  some_rule =
      ⊎_elim (λ h. (_, TableRule.count h))
      (λ h.
      ⊎_elim (λ f. (_, TableRule.rows h f (clashes_rule (used_rows t)))) (λ b. bad_rule h b.0 b.1 b.2 b.3 b.4)
      (rows_split 0 0 (used_rows t) t.times))
      (either 64 t.count)

  -- and what is said a rule says
  pub fault-rule : TableRule t (fault_of t)
  fault-rule = let r = some_rule in subst (TableRule t) (sym (rule-fault r.1)) r.1

  -- these are the codes 3, 7, 4, 5 and 6, or the table is good
  pub table-code : {v : Verdict} → TableRule t v → (v ≡ C.Good) ⊎ RefusedReading v
  unfolding good
  table-code (TableRule.count h) = inr (record { fault = refl; read = refl })
  table-code (TableRule.out h a o) = inr (record { fault = refl; read = refl })
  table-code (TableRule.too_many h a r o) = inr (record { fault = refl; read = refl })
  table-code (TableRule.rows h f c) = clash-code (used_rows t) c
