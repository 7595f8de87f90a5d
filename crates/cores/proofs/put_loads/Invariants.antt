-- `cores::put_loads` meets its contract. The invariant: the loads so far stand there, and those of the other rows wanted follow. Assumes
-- nothing.
use Rattle.std.proofs.Common.{◌≡◌, ◌++◌, Bool, drop}
use Rattle.cores.specs.declared.Asked.{Asked}
use Rattle.cores.specs.Promises.{Computes, wanted_loads}
use Rattle.cores.proofs.put_loads.Given as goal

abbrev pub invariant-loop-a : goal.invariant-loop-a
invariant-loop-a g l =
    (p : Asked → Bool) → Computes g.F.Fn l.wanted p
    → l.initial.loads.items ++ wanted_loads p l.asked ≡ l.loads.items ++ wanted_loads p (drop l.a-index l.asked)
