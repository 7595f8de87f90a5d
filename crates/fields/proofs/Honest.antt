-- Reading stops only at a fault: one number of a file, and more by any way to read one number that does. Assumes nothing.
use Prim.Native.Nat.{ℕ}
use mathlib.Core.Path.{◌≡◌, refl}
use mathlib.Core.Bool.{Bool, true, false}
use mathlib.Core.List.{List, [], ◌∷◌, ◌++◌}
use lib.ListN.{length}
use Rattle.lists.specs.Lists.{pick}
use Rattle.lists.proofs.Tests.{by_test, never}
use Rattle.numbers.specs.Numbers.{number_at}
use Rattle.numbers.specs.Numbers.{Number}
use Rattle.numbers.specs.Numbers as N
use Rattle.table.specs.declared.Verdict.{Verdict}
use Rattle.table.specs.declared.Verdict.TheVariants.{EndsEarly, Malformed}
use Rattle.table.specs.Verdicts.{code_of, good}
use Rattle.table.specs.declared.Wanted.{Wanted}
use Rattle.table.specs.Fields.{head, row_from, judge}
use Rattle.table.proofs.Codes.{is_good}
use Rattle.fields.specs.Stepping.{Step, stop, go, ◌then◌, unless, asked, field_at, fields_at, row_by}

-- a step that, if it stops, does so at a fault
unfoldable pub Honest : {A : Type 0} → Step A → Type 0
Honest (stop v) = good v ≡ false
Honest (go a n) = Unit {0}

-- stopping at a fault
pub stop_honest : (A : Type 0) (v : Verdict) → good v ≡ false → Honest {A = A} (stop v)
unfolding Honest
stop_honest A v f = f

module _ {A : Type 0} where
  -- going on
  pub go_honest : (a : A) (n : ℕ) → Honest (go a n)
  unfolding Honest
  go_honest a n = tt

  -- unless the verdict is good
  pub unless_honest : (v : Verdict) (a : A) (n : ℕ) → Honest (unless v a n)
  unfolding unless Honest
  unless_honest v a n = by_test (good v) (λ e. rw e tt) (λ e. rw e e)

  -- one of two
  pub pick_honest : (b : Bool) (x y : Step A) → Honest x → Honest y → Honest (pick b x y)
  pick_honest true x y h k = h
  pick_honest false x y h k = k

  -- first one thing, then another
  pub then_honest : {B : Type 0} (x : Step B) (f : B → ℕ → Step A) → Honest x → ((b : B) (n : ℕ) → Honest (f b n)) → Honest (x then f)
  unfolding ◌then◌ Honest
  then_honest (stop v) f h k = h
  then_honest (go b n) f h k = k b n

  -- a good verdict is not where such a step stops
  pub honest_fault : (x : Step A) (v : Verdict) → Honest x → x ≡ stop v → code_of v ≡ 0 → ⊥
  unfolding Honest
  honest_fault x v h e c = never (is_good v c) (rw e at h)

-- the number wanted at a place of a file
pub number_honest : (s : List ℕ) (w : Wanted) (at : ℕ) → Honest (field_at s w at)
unfolding field_at asked good
number_honest s w at = by (number_at s at)
  where
    by : (x : Number) → Honest (asked w s at x)
    by (N.Got v n) = unless_honest (judge w at v) v n
    by N.EndsEarly = stop_honest ℕ (EndsEarly (length s)) refl
    by N.Malformed = stop_honest ℕ (Malformed at) refl

module _ (one : Wanted → ℕ → Step ℕ) (own : (w : Wanted) (at : ℕ) → Honest (one w at)) where
  -- numbers one after another
  pub fields_honest : (ws : List Wanted) (done : List ℕ) (at : ℕ) → Honest (fields_at one ws done at)
  unfolding fields_at
  fields_honest [] done at = go_honest done at
  fields_honest (w ∷ ws) done at = then_honest (one w at) _ (own w at) (λ v n. fields_honest ws (done ++ (v ∷ [])) n)

  -- a row, by any way to read its times
  pub row_honest : (times : ℕ → ℕ → Step (List ℕ)) → ((k at : ℕ) → Honest (times k at)) → (used at : ℕ)
      → Honest (row_by one times used at)
  unfolding row_by
  row_honest times theirs used at =
      then_honest (fields_at one (head used) [] at) _ (fields_honest (head used) [] at)
      (λ fields m. then_honest (times (row_from fields).parts m) _ (theirs (row_from fields).parts m) (λ ts n. go_honest _ n))
