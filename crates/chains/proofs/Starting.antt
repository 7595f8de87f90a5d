-- Where the bounds of the rows so far begin, with how many bounds each core has so far. Assumes nothing.
use Prim.Native.Nat.{ℕ, ◌+◌, ◌*◌, ◌≤◌, ◌<◌}
use native.Mathlib.Numerals.{add-one}
use native.Mathlib.Omega.{arith}
use borrow.Author.Count.{below_more}
use borrow.Author.Tests.{eq-eqb, ne_eqb}
use mathlib.Core.Path.{◌≡◌, refl, sym, ap, ◌∙◌}
use mathlib.Core.Logic.{⊎_elim}
use mathlib.Core.List.{List}
use lib.Dec.{eqb}
use lib.ListN.{length, get_or, set, take, replicate, length-set, get_or-replicate}
use lib.Seq.{get_or-set_same, get_or-set_other}
use Rattle.lists.specs.Lists.{Place, total}
use Rattle.lists.proofs.Drops.{place_drop, place_take}
use Rattle.lists.proofs.Places.{place_below}
use Rattle.lists.proofs.Stores.{set_cases}
use Rattle.lists.proofs.Keep.{keep_snoc}
use Rattle.lists.proofs.Totals.{total_snoc}
use Rattle.model.specs.Task.{Task, parts}
use Rattle.model.specs.Rows.{GoodTask}
use Rattle.model.specs.Bounds.{on_core}
use Rattle.model.proofs.Cores.{core_none}
use Rattle.chains.specs.Promises.{start_of, StartsOf}

-- the parts that the rows before row i have on a core
pub record Sum (tasks : List Task) (i c n : ℕ) : Type 0 where
  pub is : n ≡ total parts (on_core c (take i tasks))
  pub small : n ≤ 64 * i

-- where the bounds of each row before row i begin
abbrev pub StartsTo : List Task → List ℕ → ℕ → Type 0
StartsTo tasks starts i = (j : ℕ) → j < i → (u : Task) → Place tasks j u → get_or starts j 0 ≡ start_of tasks j u

-- that, and the sums of the cores
pub record Starting (tasks : List Task) (starts used : List ℕ) (i : ℕ) : Type 0 where
  pub start : StartsTo tasks starts i
  pub sum : (c : ℕ) → c < 4 → Sum tasks i c (get_or used c 0)
  pub starts_long : length starts ≡ 64
  pub used_long : length used ≡ 4

-- at first there is none
pub none_started : (tasks : List Task) → Starting tasks (replicate 64 0) (replicate 4 0) 0
unfolding total
none_started tasks =
    record {
      start = λ j h. absurd (omega arith);
      sum = λ c h. rw (get_or-replicate {A = ℕ} 4 c 0 0 h) (record { is = sym (ap (total parts) (core_none c)); small = omega arith });
      starts_long = refl;
      used_long = refl;
    }

module _ (tasks : List Task) (i : ℕ) (u : Task) (p : Place tasks i u) where
  -- row i adds its parts to the sum of its core
  own_more : total parts (on_core u.core (take (i + 1) tasks)) ≡ total parts (on_core u.core (take i tasks)) + parts u
  unfolding on_core
  own_more =
      rw (add-one, place_take tasks i u p, keep_snoc (λ t. eqb t.core u.core) (take i tasks) u, eq-eqb u.core u.core refl)
      (total_snoc parts (on_core u.core (take i tasks)) u)

  -- and nothing to any other
  other_same : (c : ℕ) → (c ≡ u.core → ⊥) → total parts (on_core c (take (i + 1) tasks)) ≡ total parts (on_core c (take i tasks))
  unfolding on_core
  other_same c e =
      rw (add-one, place_take tasks i u p, keep_snoc (λ t. eqb t.core c) (take i tasks) u, ne_eqb u.core c (λ q. e (sym q)))

  -- the sum of its core is stored
  core_sums_more : (used : List ℕ) → u.core < length used → parts u ≤ 64 → ((c : ℕ) → c < 4 → Sum tasks i c (get_or used c 0))
      → (c : ℕ) → c < 4
      → Sum tasks (i + 1) c (get_or (set used u.core (get_or used u.core 0 + parts u)) c 0)
  core_sums_more used inside few sums c h =
      ⊎_elim
      (λ own.
      (let s : Sum tasks i u.core (get_or used u.core 0) = sums u.core (omega arith) in
      rw (own.1, own.0) (record { is = rw s.is (sym own_more); small = omega (arith, s.small) })))
      (λ other. rw other.1 (record { is = (sums c h).is ∙ sym (other_same c other.0); small = omega (arith, (sums c h).small) }))
      (set_cases 0 used u.core (get_or used u.core 0 + parts u) c inside)

  -- where its bounds begin is stored
  starts_more : (starts : List ℕ) (n : ℕ) → StartsTo tasks starts i → i < length starts → n ≡ start_of tasks i u
      → StartsTo tasks (set starts i n) (i + 1)
  starts_more starts n told inside e =
      below_more (λ j. (v : Task) → Place tasks j v → get_or (set starts i n) j 0 ≡ start_of tasks j v) i
      (λ j h v q. rw (get_or-set_other starts i j n 0 (λ same. omega arith)) (told j h v q))
      (λ v q.
      (let this = place_drop tasks i u p in
      let that = place_drop tasks i v q in
      let same : u ≡ v = cc in
      rw (get_or-set_same starts i n 0 inside) (e ∙ ap (start_of tasks i) same)))

  -- one row more
  pub one_started : {starts used : List ℕ} → Starting tasks starts used i → GoodTask u → i < 64
      → Starting tasks (set starts i (get_or used u.core 0)) (set used u.core (get_or used u.core 0 + parts u)) (i + 1)
  unfolding start_of
  one_started {starts} {used} k good h =
      let core : u.core < 4 = omega (arith, good.core.most) in
      record {
        start = starts_more starts _ k.start (omega (arith, k.starts_long)) (k.sum u.core core).is;
        sum = core_sums_more used (omega (arith, k.used_long)) good.count.most k.sum;
        starts_long = rw length-set k.starts_long;
        used_long = rw length-set k.used_long;
      }

-- past the last row
pub all_started : {tasks : List Task} {starts used : List ℕ} {i : ℕ} → Starting tasks starts used i → length tasks ≤ i
    → StartsOf tasks starts
all_started {tasks} k h j u p = k.start j (omega (arith, place_below tasks j u p)) u p
