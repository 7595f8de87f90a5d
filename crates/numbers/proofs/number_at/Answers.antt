-- `numbers::number_at` meets its contract. The invariant: what is left to read, put after what was read, is the number.
-- Assumes nothing.
use Prim.Native.Nat.{ℕ, ◌+◌, ◌-◌, ◌*◌, ◌^◌, ◌≤◌, ◌<◌}
use native.Mathlib.Nat.{mul-le-mul_left, pow-le-pow_right, pow-suc, add-zero, add_assoc}
use native.Mathlib.Numerals.{add-one}
use native.Mathlib.Omega.{arith}
use borrow.Author.Tests.{lt-ltb, le-ltb, eq-eqb, ne_eqb}
use mathlib.Core.Path.{◌≡◌, refl, sym, ap, ◌∙◌}
use mathlib.Core.List.{List, [], ◌∷◌}
use mathlib.Core.Bool.{false}
use mathlib.Core.Logic.{⊎_elim}
use lib.ListN.{length, drop}
use lib.Dec.{eqb, ltb, lit≤}
use Rattle.std.proofs.lemmas.Grind.{common_steps}
use Rattle.std.proofs.lemmas.List.{nil_from_length}
use Rattle.lists.specs.Lists.{pick}
use Rattle.lists.proofs.Tests.{either, pick_same}
use Rattle.numbers.specs.Numbers.{Got, EndsEarly, Malformed}
use Rattle.numbers.specs.Numbers.{after, last, groups, number_at}
use Rattle.numbers.specs.Promises.{as_read}
use Rattle.numbers.proofs.Laws.{after-after}
use Rattle.numbers.proofs.number_at.Invariants.{Reading}
use Rattle.numbers.proofs.number_at.Goals as goal

-- at the first byte
first : (s : List ℕ) (at : ℕ) {rest : List ℕ} {used left : ℕ} {more : List ℕ}
    → rest ≡ drop at s → used ≡ 0 → left ≡ 4 → more ≡ rest → Reading s at 0 1 rest used left more
unfolding number_at
first s at r u l m =
    rw (m, u, l)
    record {
      four = refl;
      low = omega arith;
      unit = refl;
      size = omega arith;
      same = rw (r, add-zero);
    }

module _ {s : List ℕ} {at v w : ℕ} {rest : List ℕ} {used left : ℕ} {more : List ℕ} (r : Reading s at v w rest used left more) where
  -- at the end either four bytes are read or none is left
  module _ (done : 0 < left → length more ≡ 0) where
    -- fewer than four were there
    ends : length rest < 4 → number_at s at ≡ EndsEarly
    unfolding groups
    ends h =
        let some : (left - 1) + 1 ≡ left = omega arith in
        let none : more ≡ [] = nil_from_length more (done (omega arith)) in
        r.same ∙ rw (none, ← some, add-one)

    -- four were, and the last of them ends no number
    full : 4 ≤ length rest → number_at s at ≡ Malformed
    unfolding groups
    full h = let all : left ≡ 0 = grind arith in r.same ∙ rw all

  -- a group at the present weight
  scaled : (x : ℕ) → x < 128 → w * x ≤ w * 127
  scaled x h = mul-le-mul_left w (omega arith)

  -- where one more is read the weight is small
  small : 0 < left → w ≤ 2097152
  small h = let low : used ≤ 3 = omega arith in rw r.unit (pow-le-pow_right {n = 128} (lit≤ tt) low)

  -- a byte more
  module _ {b : ℕ} {more' : List ℕ} (left' : ℕ) (cut : (more ≡ b ∷ more') × (left' + 1 ≡ left)) where
    -- a group fits
    room : (x : ℕ) → x < 128 → v + w * x < 2 ^ 32
    room x h = omega (arith, small (omega (arith, cut.1)), r.low, scaled x h)

    -- what the byte says
    step : number_at s at
        ≡ after v w (at + used) (pick (ltb b 128) (last (eqb used 0) b) (after (b - 128) 128 1 (groups false left' more')))
    unfolding groups
    step = r.same ∙ rw (cut.0, ← cut.1, add-one)

    -- it is the last: not 0, or alone
    got : b < 128 → (b ≡ 0 → used ≡ 0) → number_at s at ≡ Got (v + w * b) (at + used + 1)
    got h e =
        step
        ∙ rw (lt-ltb _ _ h)
        (⊎_elim (λ some. rw (lt-ltb 0 b some, pick_same)) (λ none. rw (eq-eqb used 0 (e (omega arith)))) (either 0 b))

    -- 0 with others before it
    long : b ≡ 0 → 0 < used → number_at s at ≡ Malformed
    long e h = step ∙ rw (e, ne_eqb used 0 (omega arith))

    -- or others follow
    turn : 128 ≤ b → b < 256 → {used' : ℕ} → used' ≡ used + 1 → Reading s at (v + w * (b - 128)) (w * 128) rest used' left' more'
    turn h l256 u =
        rw u
        record {
          four = omega arith;
          low = omega (arith, r.low, scaled (b - 128) (omega arith));
          unit = rw (add-one, pow-suc, r.unit);
          size = omega (arith, r.size, ap length cut.0);
          same = step ∙ rw (le-ltb _ _ h, ne_eqb (used + 1) 0 (omega arith)) (after-after v w (at + used) (b - 128) 128 1 _ ∙ rw add_assoc);
        }

-- the bytes from a place on
behind : (c : goal.After-into_iter-k-iterator) → c.unwrap_or-rest.result.now ≡ drop c.args.at c.args.bytes.now
behind c = grind (arith, common_steps)

pub loop-k-init : goal.loop-k-init
loop-k-init c = first _ _ (behind c) (cc) (cc) (cc)

-- of the byte as the last
last_fits : (c : goal.Joined-else-b-eq0) → c.loop-k.value + c.loop-k.weight * c.in-Some.byte.now < 2 ^ 32
last_fits c = room c.loop-k.invariant _ c.in-Some.ensures.steps.0 _ c.if-b-lt128.true

pub overflow_mul-result : goal.overflow_mul-result
overflow_mul-result c = omega (arith, last_fits c)

pub overflow_add-result : goal.overflow_add-result
overflow_add-result c = omega (arith, last_fits c)

-- and as a group before others
group_fits : (c : goal.Else-b-lt128) → c.loop-k.value + c.loop-k.weight * (c.in-Some.byte.now - 128) < 2 ^ 32
group_fits c = room c.loop-k.invariant _ c.in-Some.ensures.steps.0 _ (omega arith)

pub overflow_mul-value : goal.overflow_mul-value
overflow_mul-value c = omega (arith, group_fits c)

pub overflow_add-value : goal.overflow_add-value
overflow_add-value c = omega (arith, group_fits c)

pub loop-k-preserved : goal.loop-k-preserved
loop-k-preserved c =
    turn c.loop-k.invariant _ c.in-Some.ensures.steps.0 c.if-b-lt128.false (omega arith) c.in-Some.ensures.steps.2

pub overflow_mul-weight : goal.overflow_mul-weight
overflow_mul-weight c = omega (arith, small c.loop-k.invariant (omega (arith, c.in-Some.ensures.steps.0.1)))

pub returns-then-b-lt128 : goal.returns-then-b-lt128
returns-then-b-lt128 c =
    let step = c.in-Some.ensures.steps in
    rw step.1 (sym (ap as_read (got c.loop-k.invariant _ step.0 c.if-b-lt128.true (λ e. grind (arith, step.1)))))

pub returns-then-not-alone : goal.returns-then-not-alone
returns-then-not-alone c =
    let step = c.in-Some.ensures.steps in
    sym (ap as_read (long c.loop-k.invariant _ step.0 c.if-b-eq0.true (omega (arith, step.1))))

pub returns-then-rest-lt4 : goal.returns-then-rest-lt4
returns-then-rest-lt4 c =
    sym (ap as_read (ends c.loop-k.invariant (λ some. (c.in-None.ensures.steps.0 some).0) c.if-rest-lt4.true))

pub returns : goal.returns
returns c = sym (ap as_read (full c.loop-k.invariant (λ some. (c.in-None.ensures.steps.0 some).0) c.if-rest-lt4.false))
