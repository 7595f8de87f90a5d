-- What the bytes at a place say of the number there: it is cut off, or malformed, exactly as the rules of 1 and 2 say. Assumes nothing.
use Prim.Native.Nat.{ℕ, zero, suc, ◌≤◌, ◌<◌}
use native.Mathlib.Omega.{arith}
use borrow.Author.Tests.{ltb-true, ltb-false}
use mathlib.Core.Path.{◌≡◌, refl, sym, ap, ◌∙◌}
use mathlib.Core.Logic.{◌⊎◌, inl, inr, ⊎_elim, ◌↔◌}
use mathlib.Core.Bool.{Bool, true, false}
use mathlib.Core.List.{List, [], ◌∷◌}
use lib.ListN.{length, drop}
use lib.Dec.{ltb}
use Rattle.lists.specs.Lists.{Place}
use Rattle.lists.proofs.Tests.{by_test, never}
use Rattle.numbers.specs.Numbers.{after, last, groups, number_at}
use Rattle.numbers.specs.Numbers.{Number}
use Rattle.numbers.specs.Numbers as N
use Rattle.demands.specs.Reached.{GoOn, CutOff, ZeroLast, IllFormed}

-- bytes that go on, behind one more
more_go : (k b : ℕ) (bs : List ℕ) → 128 ≤ b → GoOn k bs → GoOn (suc k) (b ∷ bs)
more_go k b bs h g zero lt = (omega arith, h)
more_go k b bs h g (suc i) lt = let r = g i (omega arith) in (omega (arith, r.0), r.1)

-- and without it
fewer_go : (k b : ℕ) (bs : List ℕ) → GoOn (suc k) (b ∷ bs) → GoOn k bs
fewer_go k b bs g i lt = let r = g (suc i) (omega arith) in (omega (arith, r.0), r.1)

-- what is found: a number, or its bytes are cut off, or ill_formed
abbrev sort : Number → ℕ
sort (N.Got a n) = 0
sort N.EndsEarly = 1
sort N.Malformed = 2

-- groups before it do not change that
sort-after : (v w u : ℕ) (x : Number) → sort (after v w u x) ≡ sort x
sort-after v w u (N.Got a n) = refl
sort-after v w u N.EndsEarly = refl
sort-after v w u N.Malformed = refl

-- a number's first byte does not go on
short_byte : (k b : ℕ) (bs : List ℕ) {A : Type 0} → b < 128 → 0 < k → GoOn k (b ∷ bs) → A
short_byte k b bs h p g = absurd (omega (arith, (g 0 p).1))

-- ---- cut off, of at most k bytes

-- the bytes end, fewer than k, and a number would go on behind them
abbrev Cut : ℕ → List ℕ → Type 0
Cut k bs = (length bs < k) × GoOn (length bs) bs

-- a last byte is not cut off
last-not_cut : (alone : Bool) (b : ℕ) → sort (last alone b) ≡ 1 → ⊥
last-not_cut true b e = omega arith
last-not_cut false b e = by_test (ltb 0 b) (λ t. omega (arith, rw t at e)) (λ t. omega (arith, rw t at e))

-- from what is found
found_cut : (alone : Bool) (k : ℕ) (bs : List ℕ) → sort (groups alone k bs) ≡ 1 → Cut k bs
unfolding groups
found_cut alone zero bs e = absurd (omega arith)
found_cut alone (suc k) [] e = (omega arith, λ i h. absurd (omega arith))
found_cut alone (suc k) (b ∷ bs) e =
    by_test (ltb b 128) (λ t. absurd (last-not_cut alone b (rw t at e)))
    (λ t.
    (let c = found_cut false k bs (rw (t, sort-after) at e) in
    (omega (arith, c.0), more_go (length bs) b bs (ltb-false b 128 t) c.1)))

-- and to it
cut_found : (alone : Bool) (k : ℕ) (bs : List ℕ) → Cut k bs → sort (groups alone k bs) ≡ 1
unfolding groups
cut_found alone zero bs c = absurd (omega (arith, c.0))
cut_found alone (suc k) [] c = refl
cut_found alone (suc k) (b ∷ bs) c =
    by_test (ltb b 128) (λ t. short_byte (suc (length bs)) b bs (ltb-true b 128 t) (omega arith) c.1)
    (λ t. rw (t, sort-after) (cut_found false k bs (omega (arith, c.0), fewer_go (length bs) b bs c.1)))

-- ---- ill_formed, of at most k bytes

-- a zero that ends them; not the only byte where the first stands alone
record Zero (alone : Bool) (k : ℕ) (bs : List ℕ) : Type 0 where
  j : ℕ
  others : alone ≡ true → 0 < j
  most : j < k
  go_on : GoOn j bs
  zero : Place bs j 0

-- k bytes go on, or a zero ends fewer
abbrev Ill : Bool → ℕ → List ℕ → Type 0
Ill alone k bs = GoOn k bs ⊎ Zero alone k bs

-- a last byte is ill_formed where it is zero and not the first
last_ill : (alone : Bool) (b : ℕ) → sort (last alone b) ≡ 2 → (alone ≡ false) × (b ≡ 0)
last_ill true b e = absurd (omega arith)
last_ill false b e =
    by_test (ltb 0 b) (λ t. absurd (omega (arith, rw t at e))) (λ t. (refl, omega (arith, ltb-false 0 b t)))

-- from what is found
found_ill : (alone : Bool) (k : ℕ) (bs : List ℕ) → sort (groups alone k bs) ≡ 2 → Ill alone k bs
unfolding groups Place
found_ill alone zero bs e = inl (λ i h. absurd (omega arith))
found_ill alone (suc k) [] e = absurd (omega arith)
found_ill alone (suc k) (b ∷ bs) e =
    by_test (ltb b 128) (λ t. inr (ends (last_ill alone b (rw t at e))))
    (λ t. ⊎_elim (λ g. inl (more_go k b bs (ltb-false b 128 t) g)) (λ z. inr (later (ltb-false b 128 t) z))
    (found_ill false k bs (rw (t, sort-after) at e)))
  where
    ends : (alone ≡ false) × (b ≡ 0) → Zero alone (suc k) (b ∷ bs)
    ends l =
        record { j = 0; others = λ e. absurd (never e l.0); most = omega arith; go_on = λ i h. absurd (omega arith); zero = l.1 }

    later : 128 ≤ b → Zero false k bs → Zero alone (suc k) (b ∷ bs)
    later h z =
        record {
          j = suc z.j;
          others = λ e. omega arith;
          most = omega (arith, z.most);
          go_on = more_go z.j b bs h z.go_on;
          zero = z.zero;
        }

-- and to it: too long
go_found : (alone : Bool) (k : ℕ) (bs : List ℕ) → GoOn k bs → sort (groups alone k bs) ≡ 2
unfolding groups
go_found alone zero bs g = refl
go_found alone (suc k) [] g = absurd (omega (arith, (g 0 (omega arith)).0))
go_found alone (suc k) (b ∷ bs) g =
    by_test (ltb b 128) (λ t. short_byte (suc k) b bs (ltb-true b 128 t) (omega arith) g)
    (λ t. rw (t, sort-after) (go_found false k bs (fewer_go k b bs g)))

-- or with a zero at its end
zero-found : (alone : Bool) (k : ℕ) (bs : List ℕ) (j : ℕ) → (alone ≡ true → 0 < j) → j < k → GoOn j bs → Place bs j 0
    → sort (groups alone k bs) ≡ 2
unfolding groups Place
zero-found alone zero bs j o m g z = absurd (omega arith)
zero-found alone (suc k) [] j o m g z = absurd z
zero-found true (suc k) (b ∷ bs) zero o m g z = absurd (omega (arith, o refl))
zero-found false (suc k) (b ∷ bs) zero o m g z = rw z
zero-found alone (suc k) (b ∷ bs) (suc j) o m g z =
    by_test (ltb b 128) (λ t. short_byte (suc j) b bs (ltb-true b 128 t) (omega arith) g)
    (λ t.
    rw (t, sort-after) (zero-found false k bs j (λ e. absurd (never e refl)) (omega arith) (fewer_go j b bs g) z))

-- ---- the number at a place

-- by what is found
sort_cut : (x : Number) → sort x ≡ 1 → x ≡ N.EndsEarly
sort_cut (N.Got a n) e = absurd (omega arith)
sort_cut N.EndsEarly e = refl
sort_cut N.Malformed e = absurd (omega arith)

-- and ill_formed
sort_ill : (x : Number) → sort x ≡ 2 → x ≡ N.Malformed
sort_ill (N.Got a n) e = absurd (omega arith)
sort_ill N.EndsEarly e = absurd (omega arith)
sort_ill N.Malformed e = refl

module _ (s : List ℕ) (at : ℕ) where
  -- as for the bytes from there
  sort-at : sort (number_at s at) ≡ sort (groups true 4 (drop at s))
  unfolding number_at
  sort-at = sort-after 0 1 at (groups true 4 (drop at s))

  -- it is cut off
  pub cut_off : (number_at s at ≡ N.EndsEarly) ↔ CutOff (drop at s)
  cut_off = (
    λ e. (let c = found_cut true 4 (drop at s) (sym sort-at ∙ ap sort e) in record { few = c.0; go_on = c.1 }),
    λ c. sort_cut (number_at s at) (sort-at ∙ cut_found true 4 (drop at s) (c.few, c.go_on)),
  )

  -- it is ill_formed
  pub ill_formed : (number_at s at ≡ N.Malformed) ↔ IllFormed (drop at s)
  ill_formed = (
    λ e. ⊎_elim inl (λ z. inr (named z)) (found_ill true 4 (drop at s) (sym sort-at ∙ ap sort e)),
    λ i. sort_ill (number_at s at) (sort-at ∙ ⊎_elim (go_found true 4 (drop at s)) ends i),
  )
    where
      named : Zero true 4 (drop at s) → ZeroLast (drop at s)
      named z = record { k = z.j; others = z.others refl; most = z.most; go_on = z.go_on; zero = z.zero }

      ends : ZeroLast (drop at s) → sort (groups true 4 (drop at s)) ≡ 2
      ends z = zero-found true 4 (drop at s) z.k (λ e. z.others) z.most z.go_on z.zero
