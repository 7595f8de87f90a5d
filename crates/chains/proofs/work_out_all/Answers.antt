-- `chains::work_out_all` meets its contract: step by step, each core once. Assumes nothing.
use Prim.Native.Nat.{◌+◌}
use mathlib.Core.List.{◌∷◌}
use lib.ListN.{get_or, drop}
use Rattle.std.proofs.lemmas.Result.{err_from_is_err_and}
use Rattle.table.specs.Memory.{tasks_of}
use Rattle.chains.specs.Promises.{no_spot, cores_in}
use Rattle.chains.proofs.Cores.{core-here, no_core_lem}
use Rattle.chains.proofs.Working.{Working, passing, next, halts, all-worked}
use Rattle.chains.proofs.work_out_all.Goals.{In-loop-spot, then-not-ready-core+in_ok-work_out, else-not-ready-core}
use Rattle.chains.proofs.work_out_all.Goals as goal

-- of the cores that are left, the step's is the next
here : (c : In-loop-spot)
    → Working (tasks_of c.args.t.now.table) (cores_in c.args.spots.now)
    ((get_or c.args.spots.now c.loop-spot.spot-index no_spot).core ∷ drop (c.loop-spot.spot-index + 1) (cores_in c.args.spots.now))
    c.loop-spot.rooms c.loop-spot.ready
here c = rw (core-here c.args.spots.now c.loop-spot.spot-index c.loop-spot-test.true) at c.loop-spot.invariant

pub returns-in_err-work_out : goal.returns-in_err-work_out
returns-in_err-work_out c =
    let p = err_from_is_err_and c.from_residual.result c.from_residual.ensures.1 in
    rw (p.1, p.2) (halts (here (goal.at.returns-in_err-work_out c).In-loop-spot) (rw c.in_err-work_out.was at c.work_out.ensures))

pub loop-spot-preserved : goal.loop-spot-preserved
loop-spot-preserved c =
    let l = (goal.at.loop-spot-preserved c).In-loop-spot in
    elim c.if-not-ready-core.branch [
      | then-not-ready-core+in_ok-work_out w ↦
          rw (w.rooms-is, w.ready-is)
          (next (here l) (rw w.in_ok-work_out.was at w.work_out.ensures) (c.requires.core _ c.loop-spot-test.true))
      | else-not-ready-core w ↦ rw (w.rooms-is, w.ready-is) (passing (here l) w.if-not-ready-core.false)
    ]

pub returns : goal.returns
returns c = all-worked (rw (no_core_lem c.args.spots.now c.loop-spot.spot-index c.loop-spot-test.false) at c.loop-spot.invariant)
