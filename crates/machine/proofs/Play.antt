-- A good core and an allowed run of it, and what a good core says of each of its rows.
use Prim.Native.Nat.{◌<◌}
use mathlib.Core.Path.{◌≡◌}
use mathlib.Core.List.{List}
use mathlib.Core.Logic.{◌⊎◌, inl, inr, ⊎_elim}
use native.Mathlib.Omega.{arith}
use Rattle.lists.specs.Lists.{◌∈◌}
use Rattle.lists.proofs.Tests.{either}
use Rattle.model.specs.Task.{Task, parts}
use Rattle.model.specs.Rows.{GoodCore}
use Rattle.model.specs.Machine.{Run, Allowed}

-- what all proofs of this crate are about
pub record Play : Type 0 where
  pub rows : List Task
  pub run : Run
  pub core : GoodCore rows
  pub allowed : Allowed rows run

module _ (play : Play) (row : Task) (m : row ∈ play.rows) where
  open play use {core}

  -- a row is preemptive or cooperative
  pub kinds : (row.kind ≡ 0) ⊎ (row.kind ≡ 1)
  kinds =
      let most = (core.good row m).kind.most in
      ⊎_elim (λ lt. inl (omega arith)) (λ le. inr (omega arith)) (either row.kind 1)

  -- its jobs have a part
  pub some_part : 0 < parts row
  some_part = (core.good row m).count.least
