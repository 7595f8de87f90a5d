-- How many jobs of a row a stretch of ticks can release: at most `before` its length. From releases a period apart.
use Prim.Native.Nat.{ℕ, zero, suc, ◌+◌, ◌*◌, ◌≤◌, ◌<◌}
use mathlib.Core.Logic.{⊎_elim}
use native.Mathlib.Omega.{arith}
use native.Mathlib.Nat.{add-suc, suc-mul}
use Rattle.lists.specs.Lists.{◌∈◌}
use Rattle.lists.proofs.Tests.{either, not_below}
use Rattle.model.specs.Task.{Task, parts, part}
use Rattle.model.specs.Rows.{Within}
use Rattle.model.specs.Bounds.{before, through}
use Rattle.model.specs.Machine.{released, ReleasedIn}
use Rattle.model.proofs.Released.{released_grows, when_released}
use Rattle.model.proofs.Rounding.{before_more, before-suc}
use Rattle.model.proofs.Rows.{period_pos}
use Rattle.machine.proofs.Play.{Play}

module _ (play : Play) (row : Task) (m : row ∈ play.rows) where
  open play use {rows, run, core, allowed}

  -- each part of a released job uses from one tick to its stated time
  pub uses_within : (q t r : ℕ) → q < released run row t → r < parts row → Within 1 (part row r) (run.uses row q r)
  uses_within q t r h = let w = when_released run row q t h in allowed.uses row m q w.0 r w.2

  -- the n-th job after tick t is released n periods later or more
  pub spaced : (t n u : ℕ) → ReleasedIn run row (released run row t + n) u → t + n * row.period ≤ u
  spaced t zero u h =
      ⊎_elim (λ lt. absurd (omega (arith, released_grows run row (suc u) t lt, h.by_then))) (λ le. omega arith) (either u t)
  spaced t (suc n) u h =
      let q : ℕ = released run row t + n in
      let w = when_released run row q (suc u) (omega (arith, h.by_then)) in
      let last : t + n * row.period ≤ w.0 = spaced t n w.0 w.2 in
      let one_more : w.0 + row.period ≤ u = allowed.apart row m q w.0 u w.2 (rw add-suc at h) in
      omega (arith, suc-mul n row.period)

  -- so more than n jobs need more than n periods
  stretch : (t x n : ℕ) → released run row t + n < released run row (t + x) → n * row.period < x
  stretch t x n h =
      let w = when_released run row (released run row t + n) (t + x) h in
      omega (arith, spaced t n w.0 w.2, w.1)

  -- x ticks release at most `before` x jobs
  pub at-most-before : (t x : ℕ) → released run row (t + x) ≤ released run row t + before row x
  at-most-before t x = not_below _ _ too_many_lem
    where
      too_many_lem : released run row t + before row x < released run row (t + x) → ⊥
      too_many_lem lt =
          let long : before row x * row.period < x = stretch t x (before row x) lt in
          omega (arith, before_more row (period_pos rows core row m) (before row x) x long)

  -- and with one tick more at most `through` x jobs
  pub at-most-through : (t x : ℕ) → released run row (t + suc x) ≤ released run row t + through row x
  at-most-through t x = omega (arith, at-most-before t (suc x), before-suc row (period_pos rows core row m) x)
