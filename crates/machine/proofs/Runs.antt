-- Which task a tick runs, and why: the rule of `runs`, told by orders instead of tests. From what `highest` finds.
use Prim.Native.Nat.{ℕ, suc, ◌≤◌, ◌<◌}
use mathlib.Core.Path.{◌≡◌}
use mathlib.Core.List.{List}
use mathlib.Core.Option.{Option, some, none}
use mathlib.Core.Bool.{Bool, true, ◌&&◌}
use borrow.Author.Tests.{ltb-true, eqb-true, eq-eqb, lt-ltb}
use Rattle.lists.specs.Lists.{◌∈◌}
use Rattle.lists.proofs.Tests.{both}
use Rattle.model.specs.Task.{Task}
use Rattle.model.specs.Bounds.{preemptive, cooperative, highest}
use Rattle.model.specs.Machine.{Run, Stand, released, pending, pending_preemptive, pending_cooperative, open_cooperative, ◌if_none◌, runs}
use Rattle.model.proofs.Verdict.{Best, highest_best}

-- two tests that pass each pass together
pass_both : (a b : Bool) → a ≡ true → b ≡ true → (a && b) ≡ true
pass_both a b p q = rw (p, q)

module _ (rows : List Task) (run : Run) (t : ℕ) (now : Task → Stand) where
  -- a task of a kind has a job that is released and not done
  abbrev pub Waits : ℕ → Task → Type 0
  Waits kind u = (u.kind ≡ kind) × ((now u).done < released run u (suc t))

  -- a cooperative task has a part open
  abbrev pub Open : Task → Type 0
  Open u = (u.kind ≡ 1) × (0 < (now u).ran)

  -- it holds of no row
  abbrev pub None : (Task → Type 0) → Type 0
  None P = (u : Task) → u ∈ rows → P u → ⊥

  -- it holds of no row above s
  abbrev pub NoneAbove : Task → (Task → Type 0) → Type 0
  NoneAbove s P = (u : Task) → u ∈ rows → P u → u.priority ≤ s.priority

  -- the task that runs, and why
  pub data Chosen : Option Task → Type 0 where
    cuts_in : {s : Task} → s ∈ rows → Waits 0 s → NoneAbove s (Waits 0) → Chosen (some s)
    goes_on : {s : Task} → s ∈ rows → Open s → None (Waits 0) → Chosen (some s)
    begins : {s : Task} → s ∈ rows → Waits 1 s → None (Waits 0) → None Open → NoneAbove s (Waits 1) → Chosen (some s)
    idles : None (Waits 0) → None (Waits 1) → Chosen none

  -- a pending preemptive task waits
  preemptive-waits : (u : Task) → pending_preemptive run t now u ≡ true → Waits 0 u
  unfolding pending_preemptive preemptive pending
  preemptive-waits u e = let w = both _ _ e in (eqb-true _ _ w.0, ltb-true _ _ w.1)

  -- and the other way round
  waits-preemptive : (u : Task) → Waits 0 u → pending_preemptive run t now u ≡ true
  unfolding pending_preemptive preemptive pending
  waits-preemptive u w = pass_both _ _ (eq-eqb _ _ w.0) (lt-ltb _ _ w.1)

  -- a pending cooperative task waits
  cooperative-waits : (u : Task) → pending_cooperative run t now u ≡ true → Waits 1 u
  unfolding pending_cooperative cooperative pending
  cooperative-waits u e = let w = both _ _ e in (eqb-true _ _ w.0, ltb-true _ _ w.1)

  -- and the other way round
  waits-cooperative : (u : Task) → Waits 1 u → pending_cooperative run t now u ≡ true
  unfolding pending_cooperative cooperative pending
  waits-cooperative u w = pass_both _ _ (eq-eqb _ _ w.0) (lt-ltb _ _ w.1)

  -- an open cooperative part is open
  cooperative_open : (u : Task) → open_cooperative now u ≡ true → Open u
  unfolding open_cooperative cooperative
  cooperative_open u e = let w = both _ _ e in (eqb-true _ _ w.0, ltb-true _ _ w.1)

  -- and the other way round
  open_cooperative_lem : (u : Task) → Open u → open_cooperative now u ≡ true
  unfolding open_cooperative cooperative
  open_cooperative_lem u w = pass_both _ _ (eq-eqb _ _ w.0) (lt-ltb _ _ w.1)

  -- what `runs` answers is what is chosen
  pub chosen : Chosen (runs rows run t now)
  unfolding runs ◌if_none◌
  chosen =
      go (highest (pending_preemptive run t now) rows) (highest (open_cooperative now) rows)
      (highest (pending_cooperative run t now) rows) (highest_best (pending_preemptive run t now) rows)
      (highest_best (open_cooperative now) rows) (highest_best (pending_cooperative run t now) rows)
    where
      go : (a b c : Option Task) → Best (pending_preemptive run t now) rows a → Best (open_cooperative now) rows b
          → Best (pending_cooperative run t now) rows c → Chosen (a if_none (b if_none c))
      go (some s) b c i j k = cuts_in i.0 (preemptive-waits s i.1) (λ u m w. i.2 u m (waits-preemptive u w))
      go none (some s) c i j k = goes_on j.0 (cooperative_open s j.1) (λ u m w. i u m (waits-preemptive u w))
      go none none (some s) i j k =
          begins k.0 (cooperative-waits s k.1) (λ u m w. i u m (waits-preemptive u w))
          (λ u m w. j u m (open_cooperative_lem u w)) (λ u m w. k.2 u m (waits-cooperative u w))
      go none none none i j k = idles (λ u m w. i u m (waits-preemptive u w)) (λ u m w. k u m (waits-cooperative u w))

  -- it is a row of the core
  pub chosen_row : {s : Task} → Chosen (some s) → s ∈ rows
  chosen_row (cuts_in m w top) = m
  chosen_row (goes_on m w no·) = m
  chosen_row (begins m w no· shut top) = m
