-- Cores worked out in step order, each once: what is said of them, and that the bounds of those that are ready stand in the rooms.
-- Assumes nothing.
use Prim.Native.Nat.{ℕ, ◌≤◌}
use native.Mathlib.Omega.{arith}
use mathlib.Core.Path.{◌≡◌, refl, sym, ◌∙◌}
use mathlib.Core.Bool.{Bool, true, false}
use mathlib.Core.List.Memᴰ
use mathlib.Core.List.{List, [], ◌∷◌}
use mathlib.Core.Logic.{◌⊎◌, inl, inr, ⊎_elim}
use lib.ListN.{length, get_or, set, length-set}
use lib.Seq.{get_or-set_same}
use Rattle.std.specs.Prelude.{Ok, Err}
use Rattle.lists.specs.Lists.{◌∈◌}
use Rattle.lists.proofs.Stores.{set_cases}
use Rattle.model.specs.Task.{Task}
use Rattle.table.specs.Verdicts.{good}
use Rattle.analysis.specs.Analysis.{said_of}
use Rattle.chains.specs.declared.Delayed.{Delayed}
use Rattle.chains.specs.declared.Refusal.{Refusal}
use Rattle.chains.specs.Chains.{cores_said}
use Rattle.chains.specs.Promises.{Filled, Works, WorksAll}
use Rattle.chains.proofs.CoresSaid.{cores_none, cores-next, cores_stop, said-taken, said-refused}

-- a core that was worked out: it is good, and its bounds are there
pub record Ready (tasks : List Task) (rooms : List (List ℕ)) (core : ℕ) : Type 0 where
  pub fine : good (said_of tasks core) ≡ true
  pub filled : Filled tasks rooms core

-- cores of which some are left: the rest are ready, and what is said of all is what is said of those left
pub record Working (tasks : List Task) (cores left : List ℕ) (rooms : List (List ℕ)) (ready : List Bool) : Type 0 where
  pub four : length ready ≡ 4
  pub same : (answer : Delayed) → cores_said tasks cores answer ≡ cores_said tasks left answer
  pub worked : (c : ℕ) → get_or ready c false ≡ true → Ready tasks rooms c
  pub passed : (c : ℕ) → c ∈ cores → (c ∈ left) ⊎ (get_or ready c false ≡ true)

-- a core is worked out and good
module _ {tasks : List Task} {cores left : List ℕ} {rooms : List (List ℕ)} {ready : List Bool} (w : Working tasks cores left rooms ready)
    {core : ℕ} {rooms' : List (List ℕ)} (now : Works tasks core rooms (Ok tt) rooms') (small : core ≤ 3) where
  -- its own mark is set, and the others' stay
  marks : (c : ℕ) → ((c ≡ core) × (get_or (set ready core true) c false ≡ true))
      ⊎ ((c ≡ core → ⊥) × (get_or (set ready core true) c false ≡ get_or ready c false))
  marks c = set_cases false ready core true c (omega (arith, w.four))

  -- so every core that is marked is ready
  ready_now : (c : ℕ) → get_or (set ready core true) c false ≡ true → Ready tasks rooms' c
  ready_now c r =
      ⊎_elim
      (λ x. rw x.0 (record { fine = said-taken core _ now.said; filled = now.filled refl }))
      (λ x. (let was = w.worked c (sym x.1 ∙ r) in record { fine = was.fine; filled = now.others c x.0 was.filled }))
      (marks c)

  -- and it is among them
  marked : Working tasks cores left rooms' (set ready core true)
  marked =
      record {
        four = length-set ready core true ∙ w.four;
        same = w.same;
        worked = ready_now;
        passed = λ c m. ⊎_elim inl (λ r. inr (⊎_elim (λ x. x.1) (λ x. x.1 ∙ r) (marks c))) (w.passed c m);
      }

-- the next core is ready
pub passing : {tasks : List Task} {cores : List ℕ} {core : ℕ} {left : List ℕ} {rooms : List (List ℕ)} {ready : List Bool}
    → Working tasks cores (core ∷ left) rooms ready → get_or ready core false ≡ true → Working tasks cores left rooms ready
passing {tasks} {core = core} {left} w e =
    record {
      four = w.four;
      same = λ answer. w.same answer ∙ cores-next tasks core left (w.worked core e).fine answer;
      worked = w.worked;
      passed = λ c m. ⊎_elim (λ x. ⊎_elim (λ y. inr (rw y e)) inl (Memᴰ.cases_cons x)) inr (w.passed c m);
    }

-- the next core is worked out
module _ {tasks : List Task} {cores : List ℕ} {core : ℕ} {left : List ℕ} {rooms : List (List ℕ)} {ready : List Bool}
    (w : Working tasks cores (core ∷ left) rooms ready) {rooms' : List (List ℕ)} where
  -- and good
  pub next : Works tasks core rooms (Ok tt) rooms' → core ≤ 3 → Working tasks cores left rooms' (set ready core true)
  next now small = passing (marked w now small) (get_or-set_same ready core true false (omega (arith, w.four)))

  -- or refused
  pub halts : {e : Refusal} → Works tasks core rooms (Err e) rooms' → WorksAll tasks cores (Err e) rooms'
  halts {e} now =
      let bad = said-refused core _ now.said in
      record {
        said = λ answer. w.same answer ∙ cores_stop tasks core left bad.0 answer ∙ sym bad.1;
        filled = λ z. absurd cc;
      }

-- none is left: all are ready
pub all-worked : {tasks : List Task} {cores : List ℕ} {rooms : List (List ℕ)} {ready : List Bool} → Working tasks cores [] rooms ready
    → WorksAll tasks cores (Ok tt) rooms
all-worked {tasks} w =
    record {
      said = λ answer. w.same answer ∙ cores_none tasks answer;
      filled = λ z c m. ⊎_elim (λ x. absurd (Memᴰ.not-nil x)) (λ r. (w.worked c r).filled) (w.passed c m);
    }
