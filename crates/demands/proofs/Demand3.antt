-- Demand 3 holds for what the program leaves. From demand 1 and the machine's theorem.
use mathlib.Core.Logic.{inl}
use Rattle.lists.proofs.Places.{place_in_lem}
use Rattle.model.specs.Bounds.{on_core, bound}
use Rattle.machine.specs.NoRunIsLater.{NeverLater, NoRunIsLater}
use Rattle.machine.proofs.NoRunIsLater.{no_run_is_later}
use Rattle.demands.specs.Demand3.{Demand3}
use Rattle.demands.proofs.GoodFile.{core-good}
use Rattle.demands.proofs.Passed.{core_passes, bounds-left}
use Rattle.demands.proofs.Placed.{bound_placed}

-- demand 3
pub demand3 : Demand3
unfolding NoRunIsLater NeverLater
demand3 s core room r room' a e tasks g i row l p h =
    let rows = on_core core tasks in
    let m = place_in_lem rows i row l in
    let w = (core_passes s core room r room' a tasks g e).windows row m in (
      bound rows row p,
      rw (bounds-left s core room r room' a tasks g (inl e)).bounds (bound_placed rows room i row l p h),
      λ run allowed q t u released late.
          no_run_is_later rows (core-good core g) row m w.0 w.1 run allowed q p t u released h late,
    )
