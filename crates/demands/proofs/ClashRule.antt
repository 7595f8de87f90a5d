-- The first row that clashes with an earlier row is the row named. Assumes nothing.
use Prim.Native.Nat.{ℕ, zero, suc, ◌≤◌, ◌<◌}
use native.Mathlib.Omega.{arith}
use native.Mathlib.Nat.{le_antisymm}
use borrow.Author.Tests.{eqb-true, eq-eqb, ltb-true, lt-ltb, le-ltb}
use mathlib.Core.Path.{◌≡◌, refl, sym, ap, subst, ◌∙◌}
use mathlib.Core.Logic.{◌⊎◌, inl, inr, ⊎_elim, ◌↔◌}
use mathlib.Core.Bool.{Bool, true, false, ◌&&◌, ◌||◌}
use mathlib.Core.List.{List, [], ◌∷◌, ◌++◌, append_assoc, append-nil}
use lib.ListN.{length, take}
use lib.Dec.{eqb, ltb}
use Rattle.lists.specs.Lists.{any, Place}
use Rattle.lists.proofs.Tests.{by_test, never, both, either, not_below}
use Rattle.lists.proofs.Places.{place_below, place_some}
use Rattle.table.specs.declared.Row.{Row}
use Rattle.table.specs.Rules.{Rule}
use Rattle.table.specs.Rules as R
use Rattle.table.specs.declared.Verdict.{Verdict}
use Rattle.table.specs.declared.Verdict.TheVariants as C
use Rattle.table.specs.Verdicts.{good, ◌or_else◌}
use Rattle.table.specs.Clash.{coop_above, breaks, clash_after, clash, rule_verdict, broken, clash_of}
use Rattle.table.proofs.ReadingCodes.{RefusedReading}
use Rattle.demands.specs.Rules.{CooperativeAbove, Breaks, Clashes, First, None, ClashRule}

-- ---- the tests are the words

-- one of them passes
one_of : (a b : Bool) → a || b ≡ true → (a ≡ true) ⊎ (b ≡ true)
one_of true b e = inl refl
one_of false b e = inr e

-- the second one does
second : (a b : Bool) → b ≡ true → a || b ≡ true
second true b e = refl
second false b e = e

-- the cooperative one higher
above_test : (a b : Row) → (coop_above a b ≡ true) ↔ CooperativeAbove a b
unfolding coop_above
above_test a b = (
  λ e.
      (let p = both (eqb a.kind 1) (eqb b.kind 0 && ltb b.priority a.priority) e in
      let q = both (eqb b.kind 0) (ltb b.priority a.priority) p.1 in
      record { cooperative = eqb-true _ _ p.0; preemptive = eqb-true _ _ q.0; higher = ltb-true _ _ q.1 }),
  λ c. rw (eq-eqb _ _ c.cooperative, eq-eqb _ _ c.preemptive, lt-ltb _ _ c.higher),
)

-- a row and an earlier one
breaks_test : (rule : Rule) (r e : Row) → (breaks rule r e ≡ true) ↔ Breaks rule r e
unfolding breaks
breaks_test R.SameId r e = (eqb-true e.id r.id, eq-eqb e.id r.id)
breaks_test R.SamePriority r e = (
  λ t. (let p = both (eqb e.core r.core) _ t in (eqb-true _ _ p.0, eqb-true _ _ p.1)),
  λ b. rw (eq-eqb _ _ b.0, eq-eqb _ _ b.1),
)
breaks_test R.KindsCrossed r e = (
  λ t.
      (let p = both (eqb e.core r.core) (coop_above r e || coop_above e r) t in (
        eqb-true _ _ p.0,
        ⊎_elim (λ a. inl ((above_test r e).0 a)) (λ a. inr ((above_test e r).0 a)) (one_of (coop_above r e) (coop_above e r) p.1),
      )),
  λ b.
      rw (eq-eqb _ _ b.0)
      (⊎_elim (λ a. rw ((above_test r e).1 a)) (λ a. second (coop_above r e) (coop_above e r) ((above_test e r).1 a)) b.1),
)

-- ---- some earlier element passes a test

module _ {A : Type 0} (p : A → Bool) where
  -- then it stands at an earlier place
  any_place : (xs : List A) (i : ℕ) → any p (take i xs) ≡ true → (j : ℕ) × (x : A) × (j < i) × Place xs j x × (p x ≡ true)
  unfolding any Place
  any_place [] zero e = absurd (never e refl)
  any_place [] (suc i) e = absurd (never e refl)
  any_place (x ∷ xs) zero e = absurd (never e refl)
  any_place (x ∷ xs) (suc i) e =
      by_test (p x) (λ t. (0, x, omega arith, refl, t))
      (λ f. let r = any_place xs i (rw f at e) in (suc r.0, r.1, omega (arith, r.2), r.3, r.4))

  -- and the other way round
  place_any : (xs : List A) (i j : ℕ) (x : A) → j < i → Place xs j x → p x ≡ true → any p (take i xs) ≡ true
  unfolding any Place
  place_any [] i j x h l t = absurd l
  place_any (y ∷ xs) zero j x h l t = absurd (omega arith)
  place_any (y ∷ xs) (suc i) zero x h l t = rw (ap p l ∙ t)
  place_any (y ∷ xs) (suc i) (suc j) x h l t =
      by_test (p y) (λ e. rw e) (λ e. rw e (place_any xs i j x (omega arith) l t))

-- ---- the count of rows before the first clash

module _ {A : Type 0} (f : A → A → Bool) where
  -- what it says of the rows from a place on
  record Counted (earlier rs : List A) (c : ℕ) : Type 0 where
    within : c ≤ length rs
    hit : (r : A) → Place rs c r → any (f r) (earlier ++ take c rs) ≡ true
    miss : (k : ℕ) (r : A) → k < c → Place rs k r → any (f r) (earlier ++ take k rs) ≡ false

  -- the first row clashes
  at_once : (earlier rs : List A) (r : A) → any (f r) earlier ≡ true → Counted earlier (r ∷ rs) 0
  unfolding Place
  at_once earlier rs r t =
      record {
        within = omega arith;
        hit = λ u p. rw (append-nil earlier, ← p) t;
        miss = λ k u h p. absurd (omega arith);
      }

  -- it does not
  miss_more : (earlier rs : List A) (r : A) (c : ℕ) → any (f r) earlier ≡ false → Counted (earlier ++ (r ∷ [])) rs c
      → (k : ℕ) (u : A) → k < suc c → Place (r ∷ rs) k u → any (f u) (earlier ++ take k (r ∷ rs)) ≡ false
  unfolding Place
  miss_more earlier rs r c e i zero u h p = rw (append-nil earlier, ← p) e
  miss_more earlier rs r c e i (suc k) u h p = rw append_assoc at (i.miss k u (omega arith) p)

  -- so the count is one more than that of the others
  later : (earlier rs : List A) (r : A) (c : ℕ) → any (f r) earlier ≡ false → Counted (earlier ++ (r ∷ [])) rs c
      → Counted earlier (r ∷ rs) (suc c)
  unfolding Place
  later earlier rs r c e i =
      record {
        within = omega (arith, i.within);
        hit = λ u p. rw append_assoc at (i.hit u p);
        miss = miss_more earlier rs r c e i;
      }

  -- so it counts them
  counted : (earlier rs : List A) → Counted earlier rs (clash_after f earlier rs)
  unfolding clash_after Place
  counted earlier [] = record { within = omega arith; hit = λ r p. absurd p; miss = λ k r h p. absurd p }
  counted earlier (r ∷ rs) =
      by_test (any (f r) earlier) (λ t. rw t (at_once earlier rs r t))
      (λ e. rw e (later earlier rs r _ e (counted (earlier ++ (r ∷ [])) rs)))

-- ---- 4, 5 and 6

module _ (rule : Rule) (rows : List Row) where
  -- a clash by the words passes the test
  clash-any : (i : ℕ) → (c : Clashes rule rows i) → any (breaks rule c.row) (take i rows) ≡ true
  clash-any i c =
      place_any (breaks rule c.row) rows i c.j c.earlier c.before c.there
      ((breaks_test rule c.row c.earlier).1 c.broken)

  -- and the other way round
  any-clash : (i : ℕ) (r : Row) → Place rows i r → any (breaks rule r) (take i rows) ≡ true → Clashes rule rows i
  any-clash i r p t =
      let e = any_place (breaks rule r) rows i t in
      record {
        j = e.0;
        row = r;
        earlier = e.1;
        before = e.2;
        here = p;
        there = e.3;
        broken = (breaks_test rule r e.1).0 e.4;
      }

  -- the row named
  at : ℕ
  at = clash (breaks rule) rows

  -- no row before it clashes
  none_before : (k : ℕ) → k < at → Clashes rule rows k → ⊥
  unfolding at
  none_before k h c = never (clash-any k c) ((counted (breaks rule) [] rows).miss k c.row h c.here)

  -- it is the first one, where there is one
  is_first : at < length rows → First rule rows at
  unfolding at
  is_first h =
      let p = place_some rows at h in
      record { clashes = any-clash at p.0 p.1 ((counted (breaks rule) [] rows).hit p.0 p.1); none = none_before }

  -- else there is none
  is_none : length rows ≤ at → None rule rows
  is_none h i c = none_before i (omega (arith, place_below rows i c.row c.here)) c

  -- the first one is named
  first_named : (i : ℕ) → First rule rows i → broken rule rows ≡ rule_verdict rule i
  unfolding broken at
  first_named i f =
      let inside : i < length rows = place_below rows i f.clashes.row f.clashes.here in
      let low : at ≤ i = not_below at i (λ h. none_before i h f.clashes) in
      let same : at ≡ i = le_antisymm low (not_below i at (λ h. f.none at h (is_first (omega arith)).clashes)) in
      rw (lt-ltb at (length rows) (omega arith), same)

  -- where none clashes, nothing is said
  none_named : None rule rows → broken rule rows ≡ C.Good
  unfolding broken at
  none_named n = rw (le-ltb at (length rows) (not_below (length rows) at (λ h. n at (is_first h).clashes)))

  -- one of the two holds
  first_or_none : First rule rows at ⊎ None rule rows
  first_or_none = ⊎_elim (λ h. inl (is_first h)) (λ h. inr (is_none h)) (either at (length rows))

module _ (rows : List Row) where
  -- what a rule says is said
  pub rule_clashes : {v : Verdict} → ClashRule rows v → clash_of rows ≡ v
  unfolding clash_of ◌or_else◌ good
  rule_clashes (ClashRule.id {n = n} f) = rw (first_named R.SameId rows n f)
  rule_clashes (ClashRule.priority {n = n} a f) = rw (none_named R.SameId rows a, first_named R.SamePriority rows n f)
  rule_clashes (ClashRule.kinds {n = n} a b f) =
      rw (none_named R.SameId rows a, none_named R.SamePriority rows b, first_named R.KindsCrossed rows n f)
  rule_clashes (ClashRule.none a b c) =
      rw (none_named R.SameId rows a, none_named R.SamePriority rows b, none_named R.KindsCrossed rows c)

  -- some rule says so
  some_rule : (v : Verdict) × ClashRule rows v
  some_rule =
      ⊎_elim (λ f. (_, ClashRule.id f))
      (λ a.
      ⊎_elim (λ f. (_, ClashRule.priority a f))
      (λ b. ⊎_elim (λ f. (_, ClashRule.kinds a b f)) (λ c. (_, ClashRule.none a b c)) (first_or_none R.KindsCrossed rows))
      (first_or_none R.SamePriority rows))
      (first_or_none R.SameId rows)

  -- and what is said a rule says
  pub clashes_rule : ClashRule rows (clash_of rows)
  clashes_rule = let r = some_rule in subst (ClashRule rows) (sym (rule_clashes r.1)) r.1

  -- these are the codes 4, 5 and 6, or there is no clash
  pub clash-code : {v : Verdict} → ClashRule rows v → (v ≡ C.Good) ⊎ RefusedReading v
  unfolding good
  clash-code (ClashRule.id f) = inr (record { fault = refl; read = refl })
  clash-code (ClashRule.priority a f) = inr (record { fault = refl; read = refl })
  clash-code (ClashRule.kinds a b f) = inr (record { fault = refl; read = refl })
  clash-code (ClashRule.none a b c) = inl refl
