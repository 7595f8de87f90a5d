-- `cores::own_first` meets its contract: its own load is put first, and those of the higher rows behind it. Assumes nothing.
use Rattle.std.proofs.Common.{ltb, Bool, List, ℕ, rules, arith}
use Rattle.cores.specs.declared.Asked.{Asked}
use Rattle.cores.specs.Promises.{asked_at}
use Rattle.cores.proofs.Wanted.{own-most}
use Rattle.cores.proofs.own_first.Goals as goal

-- the rows wanted
abbrev higher : List Asked → ℕ → Asked → Bool
higher rows own a = ltb (asked_at rows own).priority a.priority

pub put_loads-requires-clause-room : goal.put_loads-requires-clause-room
put_loads-requires-clause-room c =
    let most = own-most c.args.asked.now c.args.own c.requires.there in
    (higher c.args.asked.now c.args.own, λ a r k. search rules, rw (c.push.ensures.items, c.new-loads.ensures) (omega arith))
