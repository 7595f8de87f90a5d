-- The answer for a table and a list, by what was read of each. Assumes nothing.
use Prim.Native.Nat.{ℕ}
use mathlib.Core.Path.{◌≡◌, sym, ap, ◌∙◌}
use mathlib.Core.List.{List, []}
use Rattle.std.specs.Prelude.{Ok, Err}
use Rattle.arrayvec.specs.ArrayVec.{ArrayVec}
use Rattle.model.specs.Task.{Task}
use Rattle.table.specs.declared.GoodTable.{GoodTable}
use Rattle.table.specs.declared.Verdict.{Verdict}
use Rattle.table.specs.Memory.{tasks_of}
use Rattle.table.proofs.Stored.{tasks-stored}
use Rattle.fields.specs.Stepping.{Step, stop, go}
use Rattle.files.specs.Reading.{decode, Loads}
use Rattle.chains.specs.declared.About.TheVariants as A
use Rattle.chains.specs.declared.ChainStep.{ChainStep}
use Rattle.chains.specs.Lists.{list_numbers}
use Rattle.chains.specs.Chains.{links_at, chain_in, no_delay, chain_said, answer_for, delay_answer}
use Rattle.chains.specs.Promises.{as_steps}
use Rattle.chains.proofs.Listing.{list-refused, list-chain}

module _ (s list : List ℕ) where
  -- a refused table is what is spoken of
  pub file-refused : (v : Verdict) → Loads (decode s) (Err v) → no_delay A.File v ≡ delay_answer s list
  unfolding delay_answer answer_for
  file-refused v = of (decode s)
    where
      of : (x : Step (List Task)) → Loads x (Err v) → no_delay A.File v ≡ answer_for x list
      of (stop w) e = cc
      of (go ts n) f = absurd (let e = f.1 in cc)

  module _ (t : GoodTable) (read : Loads (decode s) (Ok t)) where
    -- of a good one the chain decides
    by_chain : delay_answer s list ≡ chain_said (tasks_of t.table) (chain_in (tasks_of t.table) list)
    unfolding delay_answer answer_for
    by_chain = of (decode s) read
      where
        of : (x : Step (List Task)) → Loads x (Ok t) → answer_for x list ≡ chain_said (tasks_of t.table) (chain_in (tasks_of t.table) list)
        of (stop w) e = absurd cc
        of (go ts n) f =
            let same : t ≡ f.0 = (let e = f.1 in cc) in
            let own : tasks_of t.table ≡ ts = ap (λ (u : GoodTable). tasks_of u.table) same ∙ ap tasks_of f.2 ∙ tasks-stored ts in
            rw own

    -- a refused list is what is spoken of
    pub list_refuses : (v : Verdict) → Err v ≡ as_steps (list_numbers list) → no_delay A.List v ≡ delay_answer s list
    unfolding chain_said
    list_refuses v e = sym (by_chain ∙ rw (list-refused list v e (tasks_of t.table)))

    -- else the chain of its steps
    pub chain-answers : (steps : ArrayVec ChainStep) → Ok steps ≡ as_steps (list_numbers list)
        → chain_said (tasks_of t.table) (links_at (tasks_of t.table) steps.items [] 0) ≡ delay_answer s list
    chain-answers steps e = sym (by_chain ∙ ap (chain_said (tasks_of t.table)) (list-chain list steps e (tasks_of t.table)))
