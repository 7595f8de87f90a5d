-- `chains::work_out_all` meets its contract: step by step, each core once. Assumes nothing.
use Rattle.std.specs.Prelude.{drop}
use Rattle.table.specs.Memory.{tasks_of}
use Rattle.chains.specs.Promises.{cores_in}
use Rattle.chains.proofs.Working.{Working}
use Rattle.chains.proofs.work_out_all.Given as goal

abbrev pub invariant-loop-spot : goal.invariant-loop-spot
invariant-loop-spot l = Working (tasks_of l.t.table) (cores_in l.spots) (drop l.spot-index (cores_in l.spots)) l.rooms l.ready
