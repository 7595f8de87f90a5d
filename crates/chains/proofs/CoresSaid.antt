-- Laws of `cores_said`, core by core from the front, and what the code says of one core. Assumes nothing.
use Prim.Native.Nat.{ℕ}
use mathlib.Core.Path.{◌≡◌, refl}
use mathlib.Core.Bool.{true, false}
use mathlib.Core.List.{List, [], ◌∷◌}
use Rattle.std.specs.Prelude.{Ok, Err}
use Rattle.lists.proofs.Tests.{by_test}
use Rattle.model.specs.Task.{Task}
use Rattle.table.specs.declared.Verdict.{Verdict}
use Rattle.table.specs.declared.Verdict.TheVariants.{Good}
use Rattle.table.specs.Verdicts.{good}
use Rattle.analysis.specs.Analysis.{said_of}
use Rattle.chains.specs.declared.About.TheVariants as A
use Rattle.chains.specs.declared.Delayed.{Delayed}
use Rattle.chains.specs.declared.Refusal.{Refusal}
use Rattle.chains.specs.Chains.{no_delay, cores_said}
use Rattle.chains.specs.Promises.{said_core}

module _ (tasks : List Task) where
  -- of no core: the answer is given
  pub cores_none : (answer : Delayed) → cores_said tasks [] answer ≡ answer
  unfolding cores_said
  cores_none answer = refl

  module _ (core : ℕ) (cores : List ℕ) where
    -- a good core leaves it to the others
    pub cores-next : good (said_of tasks core) ≡ true → (answer : Delayed)
        → cores_said tasks (core ∷ cores) answer ≡ cores_said tasks cores answer
    unfolding cores_said
    cores-next e answer = rw e

    -- at one that is refused it ends
    pub cores_stop : good (said_of tasks core) ≡ false → (answer : Delayed)
        → cores_said tasks (core ∷ cores) answer ≡ no_delay (A.Core core) (said_of tasks core)
    unfolding cores_said
    cores_stop e answer = rw e

-- a core is refused with a verdict that is not good
pub said-not_good : (core : ℕ) (v : Verdict) → (v ≡ Good → ⊥) → Err (record { about = A.Core core; verdict = v }) ≡ said_core core v
unfolding good
said-not_good core Good h = absurd (h refl)
said-not_good core _ h = refl

module _ (core : ℕ) (v : Verdict) where
  -- and else taken
  pub said-taken : Ok tt ≡ said_core core v → good v ≡ true
  said-taken e = by_test (good v) (λ t. t) (λ f. let no = rw f at e in absurd cc)

  -- what is answered for its refusal
  pub said-refused : {e : Refusal} → Err e ≡ said_core core v → (good v ≡ false) × (no_delay e.about e.verdict ≡ no_delay (A.Core core) v)
  said-refused {e} q =
      by_test (good v) (λ t. let no = rw t at q in absurd cc)
      (λ f. (f, (let own : Err e ≡ Err (record { about = A.Core core; verdict = v }) = rw f at q in cc)))
