-- Laws of reading step by step, for the proofs of the code that reads. Assumes nothing.
use Prim.Native.Nat.{ℕ}
use mathlib.Core.Path.{◌≡◌, refl}
use mathlib.Core.List.{List, [], ◌∷◌, ◌++◌, append_assoc}
use Rattle.std.specs.Prelude.{Ok, Err}
use Rattle.numbers.specs.declared.Read.{Read}
use Rattle.table.specs.declared.Verdict.{Verdict}
use Rattle.table.specs.Verdicts.{judged}
use Rattle.table.specs.declared.Wanted.{Wanted}
use Rattle.table.proofs.Codes.{passed, refused}
use Rattle.fields.specs.Stepping.{Step, stop, go, ◌then◌, unless, fields_at}
use Rattle.fields.specs.Promises.{as_read}

-- ---- what the code's answers say of the steps

-- where something is read
pub got_read : {A : Type 0} (x : Step A) (r : Read A) → Ok r ≡ as_read x → x ≡ go r.value r.next
got_read (stop w) r e = absurd cc
got_read (go a n) r e = cc

-- where it is refused
pub refused-read : {A : Type 0} (x : Step A) (v : Verdict) → Err v ≡ as_read x → x ≡ stop v
refused-read (stop w) v e = cc
refused-read (go a n) v e = absurd cc

-- ---- what a check's answer leaves of a step
module _ {A : Type 0} (v : Verdict) (a : A) (n : ℕ) where
  -- a refusal stops it
  pub unless_refused : {w : Verdict} → Err w ≡ judged v → unless v a n ≡ stop w
  unfolding unless
  unless_refused e = let f = refused v e in rw (f.0, f.1)

  -- else it goes on
  pub unless_passed : {u : Unit {0}} → Ok u ≡ judged v → unless v a n ≡ go a n
  unfolding unless
  unless_passed e = rw (passed v e)

-- what the code needs
pub ruleset by_verdict = (unless_refused, unless_passed)

-- ---- numbers one after another, each read as `one` says
module _ (one : Wanted → ℕ → Step ℕ) where
  -- the first numbers wanted, and behind them the others; `front` was read before
  pub fields-append : (ws vs : List Wanted) (front done : List ℕ) (at : ℕ)
      → fields_at one (ws ++ vs) (front ++ done) at ≡ (fields_at one ws done at then λ numbers at. fields_at one vs (front ++ numbers) at)
  unfolding fields_at ◌then◌
  fields-append [] vs front done at = refl
  fields-append (w ∷ ws) vs front done at = by (one w at) (λ v n. fields-append ws vs front (done ++ (v ∷ [])) n)
    where
      by : (x : Step ℕ)
          → ((v n : ℕ)
          → fields_at one (ws ++ vs) (front ++ (done ++ (v ∷ []))) n
          ≡ (fields_at one ws (done ++ (v ∷ [])) n then λ numbers at. fields_at one vs (front ++ numbers) at))
          → (x then λ value at. fields_at one (ws ++ vs) ((front ++ done) ++ (value ∷ [])) at)
          ≡ ((x then λ value at. fields_at one ws (done ++ (value ∷ [])) at) then λ numbers at. fields_at one vs (front ++ numbers) at)
      by (stop v) h = refl
      by (go v n) h = rw append_assoc (h v n)
