-- The rows of a core of a table without a fault: no priority twice, no cooperative row above a preemptive one, and at most 1,024 parts.
-- Assumes nothing.
use Prim.Native.Nat.{ℕ, ◌≤◌, ◌<◌}
use native.Mathlib.Nat.{le_antisymm}
use native.Mathlib.Omega.{arith}
use borrow.Author.Tests.{eq-eqb, eqb-true, ltb-false}
use mathlib.Core.Path.{◌≡◌, sym, ap, ◌∙◌}
use mathlib.Core.Bool.{true, false, or-true}
use mathlib.Core.Logic.{⊎_elim}
use mathlib.Core.List.Memᴰ
use mathlib.Core.List.{List, [], ◌∷◌}
use lib.ListN.{length}
use lib.Dec.{eqb, ltb}
use Rattle.lists.specs.Lists.{◌∈◌, keep, total}
use Rattle.lists.proofs.Tests.{by_test, never, either}
use Rattle.lists.proofs.Keep.{kept, keep-length}
use Rattle.lists.proofs.Walks.{keep-total}
use Rattle.model.specs.Task.{Task, parts}
use Rattle.model.specs.Rows.{Distinct, GoodCore}
use Rattle.model.specs.Bounds.{on_core}
use Rattle.model.proofs.Rows.{same_row}
use Rattle.model.proofs.Cores.{core-good}
use Rattle.table.specs.declared.Row.{Row}
use Rattle.table.specs.Rules as R
use Rattle.table.specs.declared.Table.{Table}
use Rattle.table.specs.Verdicts.{code_of}
use Rattle.table.specs.Memory.{row_of, tasks_of, rows_of}
use Rattle.table.specs.Clash.{coop_above, breaks, broken, clash_of}
use Rattle.table.specs.Faults.{fault_of}
use Rattle.table.proofs.Codes.{first_good, then_good}
use Rattle.table.proofs.Stored.{times-count}
use Rattle.table.proofs.GoodTasks.{times_fit, tasks-good}
use Rattle.table.proofs.EachGood.{each-good}
use Rattle.table.proofs.NoClash.{Apart, apart_two, rule_holds}

-- two rows of a core have one core
same_core : (c : ℕ) (a b : Task) → eqb a.core c ≡ true → eqb b.core c ≡ true → eqb a.core b.core ≡ true
same_core c a b p q = eq-eqb a.core b.core (eqb-true a.core c p ∙ sym (eqb-true b.core c q))

-- a later row of one core and one priority breaks the rule
breaks-priority : (a b : Task) → eqb a.core b.core ≡ true → a.priority ≡ b.priority
    → breaks R.SamePriority (row_of b) (row_of a) ≡ true
unfolding breaks
breaks-priority a b e q = rw (e, eq-eqb a.priority b.priority q)

-- no priority twice
core_distinct : (c : ℕ) (ts : List Task) → Apart (breaks R.SamePriority) (rows_of ts) → Distinct (on_core c ts)
unfolding on_core keep Distinct Apart
core_distinct c [] d = tt
core_distinct c (t ∷ ts) d =
    by_test (eqb t.core c)
    (λ e. rw e ((λ u m q. other u (kept _ ts u m) e q), core_distinct c ts d.1))
    (λ e. rw e (core_distinct c ts d.1))
  where
    other : (u : Task) → (u ∈ ts) × (eqb u.core c ≡ true) → eqb t.core c ≡ true → t.priority ≡ u.priority → ⊥
    other u k e q = never (breaks-priority t u (same_core c t u e k.1) q) (d.0 (row_of u) (Memᴰ.map row_of k.0))

-- a cooperative row of one core that is higher than a preemptive one breaks the rule, whichever is earlier
module _ (a b : Task) (core : eqb a.core b.core ≡ true) (back : eqb b.core a.core ≡ true) (pre : a.kind ≡ 0)
    (coop : b.kind ≡ 1) where
  -- the cooperative one is higher exactly if its priority is
  crossed : coop_above (row_of b) (row_of a) ≡ ltb a.priority b.priority
  unfolding coop_above
  crossed = rw (coop, pre)

  -- the cooperative one is later
  later : breaks R.KindsCrossed (row_of b) (row_of a) ≡ false → ltb a.priority b.priority ≡ false
  unfolding breaks
  later e = by_test (ltb a.priority b.priority) (λ t. absurd (never (rw (core, crossed, t)) e)) (λ t. t)

  -- the cooperative one is earlier
  earlier : breaks R.KindsCrossed (row_of a) (row_of b) ≡ false → ltb a.priority b.priority ≡ false
  unfolding breaks
  earlier e =
      by_test (ltb a.priority b.priority)
      (λ t. absurd (never (rw (back, crossed, t) (or-true (coop_above (row_of a) (row_of b)))) e))
      (λ t. t)

-- the rows of a core of a good table
module _ (c : ℕ) (ts : List Task) (d : Distinct (on_core c ts)) (k : Apart (breaks R.KindsCrossed) (rows_of ts)) where
  -- a cooperative one is not above a preemptive one
  not-above : (a b : Task) → a ∈ on_core c ts → b ∈ on_core c ts → a.kind ≡ 0 → b.kind ≡ 1 → b.priority ≤ a.priority
  unfolding on_core
  not-above a b m n pre coop =
      let p = kept (λ t. eqb t.core c) ts a m in
      let q = kept (λ t. eqb t.core c) ts b n in
      let core = same_core c a b p.1 q.1 in
      let back = same_core c b a q.1 p.1 in
      ltb-false a.priority b.priority
      (⊎_elim (λ e. absurd (omega (arith, ap (λ (r : Row). r.kind) e)))
      (λ w. ⊎_elim (later a b core back pre coop) (earlier a b core back pre coop) w)
      (apart_two (breaks R.KindsCrossed) (rows_of ts) k (row_of a) (row_of b) (Memᴰ.map row_of p.0) (Memᴰ.map row_of q.0)))

  -- so it is below
  core_ordered : (a b : Task) → a ∈ on_core c ts → b ∈ on_core c ts → a.kind ≡ 0 → b.kind ≡ 1 → b.priority < a.priority
  core_ordered a b m n pre coop =
      ⊎_elim (λ h. h)
      (λ h.
      (let same : a ≡ b = same_row (on_core c ts) d a b m n (le_antisymm h (not-above a b m n pre coop)) in
      absurd (omega (arith, ap (λ (t : Task). t.kind) same))))
      (either b.priority a.priority)

-- the rows of each core of a table without a fault
pub good-core : (t : Table) → length t.rows ≡ 64 → length t.times ≡ 1024 → code_of (fault_of t) ≡ 0
    → (c : ℕ) → GoodCore (on_core c (tasks_of t))
unfolding clash_of
good-core t rows times e c =
    let ts = tasks_of t in
    let g = tasks-good t rows times e in
    let after-ids = then_good (broken R.SameId (rows_of ts)) _ g.apart in
    let d = core_distinct c ts (rule_holds R.SamePriority (rows_of ts) (first_good _ _ after-ids)) in
    let k = rule_holds R.KindsCrossed (rows_of ts) (then_good (broken R.SamePriority (rows_of ts)) _ after-ids) in
    record {
      few = unfold on_core in omega (arith, keep-length (λ t. eqb t.core c) ts, g.few);
      good = core-good c ts (each-good t rows times e);
      distinct = d;
      ordered = core_ordered c ts d k;
    }

-- and they have at most 1,024 parts
pub core-fits : (t : Table) → length t.rows ≡ 64 → length t.times ≡ 1024 → code_of (fault_of t) ≡ 0
    → (c : ℕ) → total parts (on_core c (tasks_of t)) ≤ 1024
unfolding on_core
core-fits t rows times e c =
    let all = times_fit 0 (tasks_of t) (omega arith) (tasks-good t rows times e).fine in
    omega (arith, keep-total parts (λ u. eqb u.core c) (tasks_of t), times-count (tasks_of t))
