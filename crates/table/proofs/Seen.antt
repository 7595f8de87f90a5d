-- What slots and marks know of the rows so far, and of one row more. Assumes nothing.
use Prim.Native.Nat.{ℕ, min, max, ◌<◌}
use native.Mathlib.Omega.{arith}
use borrow.Author.Tests.{eqb-true, eqb-false, ltb-true, ltb-false, lt-ltb, le-ltb, eq-eqb, ne_eqb}
use mathlib.Core.Path.{◌≡◌, refl, sym, ◌∙◌}
use mathlib.Core.Bool.{Bool, true, false, or-false}
use mathlib.Core.List.{List, [], ◌∷◌, ◌++◌}
use mathlib.Core.Logic.{◌⊎◌, inl, inr, ⊎_elim}
use lib.Dec.{eqb, ltb}
use lib.ListN.{length, get_or, set, replicate, length-set, length-replicate, get_or-replicate}
use lib.Seq.{get_or-set_same, get_or-set_other}
use Rattle.lists.specs.Lists.{pick, any}
use Rattle.lists.proofs.Anys.{any_snoc}
use Rattle.lists.proofs.Tests.{by_test, never, either, not_below}
use Rattle.table.specs.declared.Marks.{Marks}
use Rattle.table.specs.declared.Row.{Row}
use Rattle.table.specs.Rules.{Rule}
use Rattle.table.specs.Rules as R
use Rattle.table.specs.Clash.{breaks, coop_above}
use Rattle.table.specs.Promises.{Placed, slot_of, crosses_marks, marks_with}

-- a list with an index for each row says of each row with a place whether it breaks a rule with an earlier one
pub record Tells {B : Type 0} (rule : Rule) (index : Row → ℕ) (says : Row → B → Bool) (d : B) (xs : List B) (earlier : List Row)
    : Type 0 where
  pub said : (r : Row) → Placed r → says r (get_or xs (index r) d) ≡ any (breaks rule r) earlier

-- and says so of one row more, if what is stored at its index does, and no row of another index breaks the rule with it
module _ {B : Type 0} {rule : Rule} {index : Row → ℕ} {says : Row → B → Bool} {d : B} {xs : List B} {earlier : List Row}
    (t : Tells rule index says d xs earlier) (e : Row) (v : B) where
  tells_more : index e < length xs
      → ((r : Row) → Placed r → index r ≡ index e → says r v ≡ pick (breaks rule r e) true (says r (get_or xs (index e) d)))
      → ((r : Row) → Placed r → (index r ≡ index e → ⊥) → breaks rule r e ≡ false)
      → Tells rule index says d (set xs (index e) v) (earlier ++ (e ∷ []))
  tells_more inside here elsewhere =
      record { said = λ r p. more r p ∙ rw (t.said r p, any_snoc (breaks rule r) earlier e) }
    where
      more : (r : Row) → Placed r
          → says r (get_or (set xs (index e) v) (index r) d) ≡ pick (breaks rule r e) true (says r (get_or xs (index r) d))
      more r p =
          by_test (eqb (index r) (index e))
          (λ y. (let q = eqb-true (index r) (index e) y in rw (q, get_or-set_same xs (index e) v d inside) (here r p q)))
          (λ n. (let q = eqb-false (index r) (index e) n in rw (elsewhere r p q, get_or-set_other xs (index e) (index r) v d q)))

-- marks that no row meets
abbrev unmet : Marks
unmet = record { lowest = 256; highest = 0 }

-- what would be read past the last core
abbrev pub zero_marks : Marks
zero_marks = record { lowest = 0; highest = 0 }

-- what the pass keeps of the earlier rows: which core and priority are taken, and the marks of each core
pub record Seen (earlier : List Row) (taken : List Bool) (marks : List Marks) : Type 0 where
  pub slots : length taken ≡ 1024
  pub cores : length marks ≡ 4
  pub twice : Tells R.SamePriority slot_of (λ r b. b) false taken earlier
  pub crossing : Tells R.KindsCrossed (λ r. r.core) crosses_marks zero_marks marks earlier

-- two orders that hold together have the same test
same_test : (a b c d : ℕ) → (a < b → c < d) → (c < d → a < b) → ltb a b ≡ ltb c d
same_test a b c d f g =
    by_test (ltb c d) (λ y. rw y (lt-ltb a b (g (ltb-true c d y))))
    (λ n. rw n (le-ltb a b (not_below b a (λ h. never (lt-ltb c d (f h)) n))))

module _ (m p q : ℕ) where
  -- the smaller of two is below a number if one of them is
  below_min : ltb (min m p) q ≡ pick (ltb p q) true (ltb m q)
  below_min =
      by_test (ltb p q) (λ y. rw y (lt-ltb (min m p) q (omega (arith, ltb-true p q y))))
      (λ n. rw n (same_test (min m p) q m q (λ h. omega (arith, ltb-false p q n)) (λ h. omega arith)))

  -- a number is below the larger of two if it is below one of them
  below_max : ltb q (max m p) ≡ pick (ltb q p) true (ltb q m)
  below_max =
      by_test (ltb q p) (λ y. rw y (lt-ltb q (max m p) (omega (arith, ltb-true q p y))))
      (λ n. rw n (same_test q (max m p) q m (λ h. omega (arith, ltb-false q p n)) (λ h. omega arith)))

-- a row is preemptive or cooperative
kind-of : {r : Row} → Placed r → (r.kind ≡ 0) ⊎ (r.kind ≡ 1)
kind-of {r} p = ⊎_elim (λ h. inl (omega arith)) (λ h. inr (omega (arith, p.kind))) (either r.kind 1)

-- marks with a row more know of it: a preemptive row by the highest cooperative one, a cooperative row by the lowest preemptive one
marks_more : (m : Marks) (r e : Row) → Placed r → Placed e → r.core ≡ e.core
    → crosses_marks r (marks_with e m) ≡ pick (breaks R.KindsCrossed r e) true (crosses_marks r m)
unfolding breaks coop_above
marks_more m r e p q c = of_kinds (kind-of p) (kind-of q)
  where
    core : eqb e.core r.core ≡ true
    core = eq-eqb e.core r.core (sym c)

    of_kinds : (r.kind ≡ 0) ⊎ (r.kind ≡ 1) → (e.kind ≡ 0) ⊎ (e.kind ≡ 1)
        → crosses_marks r (marks_with e m) ≡ pick (breaks R.KindsCrossed r e) true (crosses_marks r m)
    of_kinds (inl x) (inl y) = rw (x, y, core)
    of_kinds (inl x) (inr y) = rw (x, y, core) (below_max m.highest e.priority r.priority)
    of_kinds (inr x) (inl y) = rw (x, y, core, or-false) (below_min m.lowest e.priority r.priority)
    of_kinds (inr x) (inr y) = rw (x, y, core)

-- before the first row no slot is taken and no mark is met
pub seen_start : Seen [] (replicate 1024 false) (replicate 4 unmet)
unfolding any
seen_start =
    record {
      slots = length-replicate 1024 false;
      cores = refl;
      twice = record { said = λ r p. get_or-replicate 1024 (slot_of r) false false (omega arith) };
      crossing = record { said = λ r p. rw (get_or-replicate 4 r.core unmet zero_marks p.core) (none r p) };
    }
  where
    none : (r : Row) → Placed r → crosses_marks r unmet ≡ false
    none r p =
        by_test (eqb r.kind 0) (λ y. rw y (le-ltb r.priority 0 (omega arith)))
        (λ n. rw n (le-ltb 256 r.priority (omega arith)))

-- a row takes its slot and is marked
pub seen_more : {earlier : List Row} {taken : List Bool} {marks : List Marks} → Seen earlier taken marks → (row : Row) → Placed row
    → Seen (earlier ++ (row ∷ [])) (set taken (slot_of row) true) (set marks row.core (marks_with row (get_or marks row.core zero_marks)))
unfolding breaks
seen_more {taken} {marks} k row q =
    record {
      slots = length-set taken (slot_of row) true ∙ k.slots;
      cores = length-set marks row.core _ ∙ k.cores;
      twice =
          tells_more k.twice row true (omega (arith, k.slots))
          (λ r p e. rw (eq-eqb row.core r.core (omega arith), eq-eqb row.priority r.priority (omega arith)))
          (λ r p n.
          by_test (eqb row.core r.core)
          (λ y. rw (y, ne_eqb row.priority r.priority (λ e. n (omega (arith, eqb-true row.core r.core y)))))
          (λ f. rw f));
      crossing =
          tells_more k.crossing row _ (omega (arith, k.cores, q.core)) (λ r p e. marks_more _ r row p q e)
          (λ r p n. rw (ne_eqb row.core r.core (λ e. n (sym e))));
    }
