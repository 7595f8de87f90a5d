-- The delay along a chain is the sum of period and bound over the steps that count, and no other number; each step adds at most twice the
-- limit. From the equations of the bounds and the laws of `delay`.
use Prim.Native.Nat.{ℕ, ◌+◌, ◌*◌, ◌≤◌}
use native.Mathlib.Omega.{arith}
use borrow.Author.Tests.{eq-eqb}
use mathlib.Core.Path.{◌≡◌, refl, ◌∙◌}
use mathlib.Core.List.Memᴰ
use mathlib.Core.List.{List, [], ◌∷◌}
use lib.ListN.{length}
use lib.Dec.{eqb}
use Rattle.lists.specs.Lists.{◌∈◌}
use Rattle.lists.proofs.Tests.{by_test, never}
use Rattle.lists.proofs.Keep.{keeps}
use Rattle.model.specs.Task.{Task}
use Rattle.model.specs.Bounds.{on_core}
use Rattle.model.specs.Chains.{Link, same_job, bound_of, delay}
use Rattle.model.proofs.Chains.{same_job_lem, rising_same, delay_none, delay-last, delay_anew, delay_same}
use Rattle.machine.specs.Passing.{StepOf}
use Rattle.table.specs.declared.Verdict.TheVariants.{Good}
use Rattle.model.proofs.Most.{bound-most}
use Rattle.chains.specs.declared.ChainStep.{ChainStep}
use Rattle.demands.specs.Rules.{GoodFile}
use Rattle.demands.specs.Chains.{Names, CoreSays, Counts, BoundIs, SumIs}
use Rattle.demands.proofs.CoreRule.{passes_code}
use Rattle.demands.proofs.GoodFile.{core-good}
use Rattle.demands.proofs.Equations.{window_is, bound_is, equations}

-- a step that is named, on a core that passes, is a step of the machine's table
pub step_of : {s : List ℕ} {tasks : List Task} {step : ChainStep} {l : Link} → GoodFile s tasks → Names tasks step l
    → CoreSays tasks l.task.core Good → StepOf tasks l
unfolding on_core
step_of {tasks = tasks} {l = l} file k says =
    let core = l.task.core in
    let row : l.task ∈ on_core core tasks = keeps (λ t. eqb t.core core) tasks l.task k.row (eq-eqb core core refl) in
    record {
      row = row;
      core = core-good core file;
      windowed = (passes_code core _ _ says refl).1.windows l.task row;
      inside = k.inside;
    }

module _ (tasks : List Task) where
  -- each of them is a step of the table
  abbrev pub Steps : List Link → Type 0
  Steps links = (l : Link) → l ∈ links → StepOf tasks l

  -- a step that counts adds its period and its bound
  counts-delay : (l : Link) (links : List Link) → Counts l links
      → delay tasks (l ∷ links) ≡ l.task.period + bound_of tasks l + delay tasks links
  counts-delay l [] c = omega (arith, delay-last tasks l, delay_none tasks)
  counts-delay l (m ∷ links) c =
      by_test (same_job l m) (λ e. (let rise = same_job_lem l m e in absurd (c (rise.0, omega (arith, rise.1))))) (delay_anew tasks l m links)

  module _ {l : Link} (step : StepOf tasks l) where
    -- the bound of a step is that of the equations
    its_bound : BoundIs tasks l (bound_of tasks l)
    unfolding bound_of
    its_bound =
        let rows = on_core l.task.core tasks in
        let L = step.windowed in
        record {
          L = L.0;
          window = (window_is rows l.task L.0).0 L.1;
          bound = bound_is rows step.core l.task step.row L.0 L.1 l.part step.inside;
        }

    -- and no other number is
    no_other_bound : (b : ℕ) → BoundIs tasks l b → bound_of tasks l ≡ b
    unfolding bound_of
    no_other_bound b i =
        ((equations (on_core l.task.core tasks) step.core l.task step.row).bounds i.L i.window l.part step.inside b).1
        i.bound

  -- the delay is the sum
  pub sum_is : (links : List Link) → Steps links → SumIs tasks links (delay tasks links)
  sum_is [] steps = rw (delay_none tasks) SumIs.none
  sum_is (l ∷ []) steps =
      rw (counts-delay l [] tt, delay_none tasks) (SumIs.counts tt (its_bound (steps l (Memᴰ.head refl))) SumIs.none)
  sum_is (l ∷ m ∷ links) steps =
      let others = sum_is (m ∷ links) (λ k i. steps k (Memᴰ.tail i)) in
      by_test (same_job l m) (λ e. rw (delay_same tasks l m links e) (SumIs.later (same_job_lem l m e) others))
      (λ e.
      (let counted : Counts l (m ∷ links) = λ r. never (rising_same l m r) e in
      rw (delay_anew tasks l m links e) (SumIs.counts counted (its_bound (steps l (Memᴰ.head refl))) others)))

  -- and no other number is
  pub one-sum : {links : List Link} {d : ℕ} → SumIs tasks links d → Steps links → delay tasks links ≡ d
  one-sum SumIs.none steps = delay_none tasks
  one-sum (SumIs.counts {l} {links} {b} c i others) steps =
      let bound = no_other_bound (steps l (Memᴰ.head refl)) b i in
      omega (arith, counts-delay l links c, one-sum others (λ k m. steps k (Memᴰ.tail m)))
  one-sum (SumIs.later {l} {m} {links} r others) steps =
      delay_same tasks l m links (rising_same l m r) ∙ one-sum others (λ k i. steps k (Memᴰ.tail i))

  -- a step adds at most 16,777,215 and 16,777,215 ticks
  adds_most : (l : Link) → l.task.period ≤ 16777215 → l.task.period + bound_of tasks l ≤ 33554430
  unfolding bound_of
  adds_most l short = omega (arith, bound-most (on_core l.task.core tasks) l.task l.part)

  -- so does each of a chain
  pub delay-most : (links : List Link) → ((l : Link) → l ∈ links → l.task.period ≤ 16777215)
      → delay tasks links ≤ length links * 33554430
  delay-most [] short = omega (arith, delay_none tasks)
  delay-most (l ∷ []) short = omega (arith, delay-last tasks l, adds_most l (short l (Memᴰ.head refl)))
  delay-most (l ∷ m ∷ links) short =
      let others = delay-most (m ∷ links) (λ k i. short k (Memᴰ.tail i)) in
      by_test (same_job l m) (λ e. omega (arith, delay_same tasks l m links e))
      (λ e. omega (arith, delay_anew tasks l m links e, adds_most l (short l (Memᴰ.head refl))))
