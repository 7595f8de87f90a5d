-- At most one cooperative part is open, and while it is no other cooperative task runs. From the rule of who runs.
use Prim.Native.Nat.{ℕ, zero, suc, ◌<◌}
use mathlib.Core.Path.{◌≡◌}
use mathlib.Core.Option.{some}
use mathlib.Core.Logic.{◌⊎◌, inl, inr}
use native.Mathlib.Omega.{arith}
use Rattle.lists.specs.Lists.{◌∈◌}
use Rattle.model.specs.Task.{Task}
use Rattle.model.specs.Machine.{stand_at}
use Rattle.machine.proofs.Runs.{Chosen, cuts_in, goes_on, begins}
use Rattle.machine.proofs.Play.{Play}
use Rattle.machine.proofs.Ticks.{now, running, running_chosen, tick}

module _ (play : Play) where
  open play use {rows, run}

  -- a part that is open ran in the last tick or was open before it
  was_open : (t : ℕ) (row : Task) → row ∈ rows → 0 < (now play (suc t) row).ran
      → (running play t ≡ some row) ⊎ (0 < (now play t row).ran)
  was_open t row m =
      tick play t row m (λ s. 0 < s.ran → (running play t ≡ some row) ⊎ (0 < (now play t row).ran)) (λ e h. inl e) (λ n h. inr h)

  -- while a cooperative part is open, a cooperative task that runs is one with an open part
  goes_first : (t : ℕ) (a b : Task) → running play t ≡ some a → a.kind ≡ 1 → b ∈ rows → b.kind ≡ 1 → 0 < (now play t b).ran
      → 0 < (now play t a).ran
  goes_first t a b e k m l h = go (running_chosen play t e)
    where
      go : Chosen rows run t (now play t) (some a) → 0 < (now play t a).ran
      go (cuts_in n w top) = absurd (omega (arith, w.0))
      go (goes_on n w no·) = w.1
      go (begins n w no· shut top) = absurd (shut b m (l, h))

  -- two open parts are one
  pub one_open : (t : ℕ) (a b : Task) → a ∈ rows → a.kind ≡ 1 → 0 < (now play t a).ran → b ∈ rows → b.kind ≡ 1
      → 0 < (now play t b).ran → a ≡ b
  unfolding stand_at
  one_open zero a b m k h n l i = absurd (omega arith)
  one_open (suc t) a b m k h n l i = go (was_open t a m h) (was_open t b n i) (λ p q. one_open t a b m k p n l q)
    where
      go : (running play t ≡ some a) ⊎ (0 < (now play t a).ran) → (running play t ≡ some b) ⊎ (0 < (now play t b).ran)
          → (0 < (now play t a).ran → 0 < (now play t b).ran → a ≡ b) → a ≡ b
      go (inl e) (inl f) earlier = cc
      go (inl e) (inr q) earlier = earlier (goes_first t a b e k n l q) q
      go (inr p) (inl f) earlier = earlier p (goes_first t b a f l m k p)
      go (inr p) (inr q) earlier = earlier p q

  -- while a cooperative part is open, a cooperative task that runs is its own
  pub open_runs : (t : ℕ) (a b : Task) → a ∈ rows → running play t ≡ some a → a.kind ≡ 1 → b ∈ rows → b.kind ≡ 1
      → 0 < (now play t b).ran → a ≡ b
  open_runs t a b n e k m l h = one_open t a b n k (goes_first t a b e k m l h) m l h
