-- `cores::preemptive_loads` meets its contract: the preemptive rows are wanted. Assumes nothing.
use Rattle.std.proofs.Common.{eqb, Bool, rules, arith}
use Rattle.cores.specs.declared.Asked.{Asked}
use Rattle.cores.proofs.Wanted.{wanted-most}
use Rattle.cores.proofs.preemptive_loads.Goals as goal

-- the rows wanted
abbrev preempts : Asked → Bool
preempts a = eqb a.kind 0

pub put_loads-requires-clause-room : goal.put_loads-requires-clause-room
put_loads-requires-clause-room c =
    let most = wanted-most preempts c.args.asked.now in (preempts, λ a r k. search rules, rw c.new-loads.ensures (omega arith))
