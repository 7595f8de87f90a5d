-- Reading numbers stops only at a fault, with a verdict of reading; the number that it carries is an offset or the length. Assumes nothing.
use Prim.Native.Nat.{ℕ, ◌+◌, ◌≤◌}
use native.Mathlib.Omega.{arith}
use mathlib.Core.Path.{◌≡◌, refl, ap, ◌∙◌}
use mathlib.Core.Bool.{Bool, true, false, ◌||◌}
use mathlib.Core.List.{List, [], ◌∷◌, ◌++◌}
use lib.ListN.{length, drop, length-append, length-drop}
use lib.Dec.{ltb}
use Rattle.lists.specs.Lists.{pick}
use Rattle.lists.proofs.Tests.{by_test}
use Rattle.numbers.specs.Numbers.{Bytes, encode, number_at}
use Rattle.numbers.specs.Numbers.{Number}
use Rattle.numbers.specs.Numbers as N
use Rattle.numbers.proofs.Laws.{encode_some}
use Rattle.numbers.proofs.RoundTrip.{stands}
use Rattle.table.specs.declared.Verdict.{Verdict}
use Rattle.table.specs.declared.Verdict.TheVariants.{Good, OutOfRange, TooManyTimes}
use Rattle.table.specs.Verdicts.{number_of, good, reading}
use Rattle.table.specs.declared.Wanted.{Wanted}
use Rattle.table.specs.Fields.{judge}
use Rattle.table.proofs.Codes.{good-code}
use Rattle.table.proofs.Fine.{good_fine}
use Rattle.table.proofs.ReadingCodes.{RefusedReading, judge-reading}
use Rattle.fields.specs.Stepping.{Step, stop, go, ◌then◌, unless, asked, field_at, fields_at}

-- a number's own fault carries its place
judge_small : (w : Wanted) (at n : ℕ) → number_of (judge w at n) ≤ at
unfolding judge
judge_small w at n = of_tests (ltb n w.low || ltb w.high n) (ltb w.left n)
  where
    of_tests : (a b : Bool) → number_of (pick a (OutOfRange at) (pick b (TooManyTimes at) Good)) ≤ at
    of_tests true b = omega arith
    of_tests false true = omega arith
    of_tests false false = omega arith

-- a verdict with which reading the file s stops: a fault, and the number that it carries is small
pub record Stopped (s : List ℕ) (v : Verdict) : Type 0 where
  pub fault : RefusedReading v
  pub small : Bytes s → number_of v ≤ length s + 64

-- a place within the file
abbrev pub Inside : List ℕ → ℕ → Type 0
Inside s at = Bytes s → at ≤ length s

-- a step that, if it stops, does so with such a verdict, and else goes on within the file with what P says
unfoldable pub Near : {A : Type 0} → List ℕ → (A → Type 0) → Step A → Type 0
Near s P (stop v) = Stopped s v
Near s P (go a n) = Inside s n × P a

-- nothing is said of what was read
abbrev pub Any : {A : Type 0} → A → Type 0
Any a = Unit {0}

module _ (s : List ℕ) where
  -- going on
  pub go_near : {A : Type 0} (P : A → Type 0) (a : A) (n : ℕ) → Inside s n → P a → Near s P (go a n)
  unfolding Near
  go_near P a n h p = (h, p)

  -- first one thing, then another
  pub then_near : {A B : Type 0} (P : A → Type 0) (Q : B → Type 0) (x : Step A) (f : A → ℕ → Step B) → Near s P x
      → ((a : A) (n : ℕ) → Inside s n → P a → Near s Q (f a n)) → Near s Q (x then f)
  unfolding ◌then◌ Near
  then_near P Q (stop v) f h g = h
  then_near P Q (go a n) f h g = g a n h.0 h.1

  -- unless the verdict is good
  pub unless_near : {A : Type 0} (P : A → Type 0) (v : Verdict) (a : A) (n : ℕ) → reading v ≡ true
      → (Bytes s → number_of v ≤ length s + 64) → Inside s n → (good v ≡ true → P a) → Near s P (unless v a n)
  unfolding unless Near
  unless_near P v a n read small h p =
      by_test (good v) (λ e. rw e (h, p e)) (λ e. rw e (record { fault = record { fault = e; read = read }; small = small }))

  -- a number ends within the file
  ends_within : (at v n : ℕ) → number_at s at ≡ N.Got v n → Inside s at → Inside s n
  ends_within at v n e h bs =
      let here = stands s at v n bs e in
      let cut : length (drop at s) ≡ length (encode v) + length (drop n s)
      = ap length here.bytes ∙ length-append (encode v) (drop n s) in
      omega (arith, cut, length-drop at s, length-drop n s, here.past, encode_some v, h bs)

  -- and is at most its largest
  asked_near : (w : Wanted) (at : ℕ) → Inside s at → (x : Number) → number_at s at ≡ x → Near s (λ v. v ≤ w.high) (asked w s at x)
  unfolding asked Near good
  asked_near w at h (N.Got v n) e =
      unless_near (λ u. u ≤ w.high) (judge w at v) v n (judge-reading w at v) (λ bs. omega (arith, judge_small w at v, h bs))
      (ends_within at v n e h)
      (λ g. (good_fine w at v (good-code (judge w at v) g)).most)
  asked_near w at h N.EndsEarly e = record { fault = record { fault = refl; read = refl }; small = λ bs. omega arith }
  asked_near w at h N.Malformed e = record { fault = record { fault = refl; read = refl }; small = λ bs. omega (arith, h bs) }

  -- so a number that is wanted at a place
  pub field_near : (w : Wanted) (at : ℕ) → Inside s at → Near s (λ v. v ≤ w.high) (field_at s w at)
  unfolding field_at
  field_near w at h = asked_near w at h (number_at s at) refl

  -- numbers one after another
  pub fields_near : (ws : List Wanted) (done : List ℕ) (at : ℕ) → Inside s at → Near s Any (fields_at (field_at s) ws done at)
  unfolding fields_at
  fields_near [] done at h = go_near Any done at h tt
  fields_near (w ∷ ws) done at h =
      then_near (λ v. v ≤ w.high) Any (field_at s w at) _ (field_near w at h) (λ v n k p. fields_near ws (done ++ (v ∷ [])) n k)
