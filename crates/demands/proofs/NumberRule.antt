-- A wanted number is refused exactly when the rules of 1, 2, 3 and 7 say so. Assumes nothing.
use Prim.Native.Nat.{ℕ, ◌<◌}
use native.Mathlib.Omega.{arith}
use borrow.Author.Tests.{lt-ltb, le-ltb}
use mathlib.Core.Path.{◌≡◌, refl, subst}
use mathlib.Core.Logic.{⊎_elim}
use mathlib.Core.Bool.{false}
use mathlib.Core.List.{List}
use Rattle.lists.proofs.Tests.{either}
use Rattle.numbers.specs.Numbers.{number_at}
use Rattle.numbers.specs.Numbers.{Number}
use Rattle.numbers.specs.Numbers as N
use Rattle.model.specs.Rows.{Within}
use Rattle.table.specs.declared.Verdict.{Verdict}
use Rattle.table.specs.declared.Verdict.TheVariants as C
use Rattle.table.specs.Verdicts.{good}
use Rattle.table.specs.declared.Wanted.{Wanted}
use Rattle.table.specs.Fields.{judge}
use Rattle.fields.specs.Stepping.{stop, unless, asked, field_at}
use Rattle.fields.proofs.Taken.{stopped_not}
use Rattle.table.proofs.ReadingCodes.{RefusedReading}
use Rattle.demands.specs.Reached.{MayBe}
use Rattle.demands.specs.Rules.{NumberRule}
use Rattle.demands.proofs.Bytes.{cut_off, ill_formed}
use Rattle.demands.proofs.Reached.{stands_read}

-- what is said of a number by its place in the range
module _ (w : Wanted) (at x : ℕ) where
  -- out of its range
  pub out_judged : (Within w.low w.high x → ⊥) → judge w at x ≡ C.OutOfRange at
  unfolding judge
  out_judged out =
      ⊎_elim (λ low. rw (lt-ltb x w.low low))
      (λ least.
      ⊎_elim (λ high. rw (le-ltb x w.low least, lt-ltb w.high x high)) (λ most. absurd (out (record { least = least; most = most })))
      (either w.high x))
      (either x w.low)

  -- in its range and above what is left
  pub over_judged : Within w.low w.high x → w.left < x → judge w at x ≡ C.TooManyTimes at
  unfolding judge
  over_judged r h = rw (le-ltb x w.low r.least, le-ltb w.high x r.most, lt-ltb w.left x h)

-- a number is out of its range, or above what is left, or what it may be
pub data Judged (w : Wanted) (x : ℕ) : Type 0 where
  out : (Within w.low w.high x → ⊥) → Judged w x
  over : Within w.low w.high x → w.left < x → Judged w x
  may : MayBe w x → Judged w x

-- one of these
pub judged : (w : Wanted) (x : ℕ) → Judged w x
judged w x =
    ⊎_elim (λ low. Judged.out (λ r. omega (arith, r.least)))
    (λ least.
    ⊎_elim (λ high. Judged.out (λ r. omega (arith, r.most)))
    (λ most.
    let range : Within w.low w.high x = record { least = least; most = most } in
    ⊎_elim (λ h. Judged.over range h) (λ left. Judged.may (record { range = range; left = left })) (either w.left x))
    (either w.high x))
    (either x w.low)

module _ (s : List ℕ) (w : Wanted) (at : ℕ) where
  -- a number that was got is refused with what is said of it
  got_refused : (x next : ℕ) (v : Verdict) → number_at s at ≡ N.Got x next → judge w at x ≡ v
      → good v ≡ false → field_at s w at ≡ stop v
  unfolding field_at asked unless
  got_refused x next v e j f = rw (e, j, f)

  -- so the rule refuses
  pub rule_refuses : {v : Verdict} → NumberRule s w at v → field_at s w at ≡ stop v
  unfolding field_at asked
  rule_refuses (NumberRule.cut c) = rw ((cut_off s at).1 c)
  rule_refuses (NumberRule.ill i) = rw ((ill_formed s at).1 i)
  rule_refuses (NumberRule.out {v = x} {next = n} e h) = got_refused x n (C.OutOfRange at) e (out_judged w at x h) (unfold good in refl)
  rule_refuses (NumberRule.over {v = x} {next = n} e r h) =
      got_refused x n (C.TooManyTimes at) e (over_judged w at x r h) (unfold good in refl)

  -- a refusal by one rule is that rule's
  one-rule : {u : Verdict} (v : Verdict) → NumberRule s w at u → field_at s w at ≡ stop v → NumberRule s w at v
  one-rule {u} v r e = let e' = rule_refuses r in let same : u ≡ v = cc in subst (NumberRule s w at) same r

  -- and each refusal is by a rule
  pub refused-rule : (v : Verdict) → field_at s w at ≡ stop v → NumberRule s w at v
  refused-rule v e = of_number (number_at s at) refl
    where
      of_judged : {x next : ℕ} → number_at s at ≡ N.Got x next → Judged w x → NumberRule s w at v
      of_judged q (Judged.out n) = one-rule v (NumberRule.out q n) e
      of_judged q (Judged.over r h) = one-rule v (NumberRule.over q r h) e
      of_judged q (Judged.may m) = stopped_not (field_at s w at) e (stands_read (record { number = q; may = m }))

      of_number : (x : Number) → number_at s at ≡ x → NumberRule s w at v
      of_number N.EndsEarly q = one-rule v (NumberRule.cut ((cut_off s at).0 q)) e
      of_number N.Malformed q = one-rule v (NumberRule.ill ((ill_formed s at).0 q)) e
      of_number (N.Got x next) q = of_judged q (judged w x)

  -- these are the codes 1, 2, 3 and 7
  pub number_code : {v : Verdict} → NumberRule s w at v → RefusedReading v
  unfolding good
  number_code (NumberRule.cut c) = record { fault = refl; read = refl }
  number_code (NumberRule.ill i) = record { fault = refl; read = refl }
  number_code (NumberRule.out e h) = record { fault = refl; read = refl }
  number_code (NumberRule.over e r h) = record { fault = refl; read = refl }
