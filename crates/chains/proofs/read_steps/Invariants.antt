-- `chains::read_steps` meets its contract: step by step, then the end. Assumes nothing.
use Rattle.chains.proofs.Stepping.{Stepping}
use Rattle.chains.proofs.read_steps.Given as goal

abbrev pub invariant-loop : goal.invariant-loop
invariant-loop l = Stepping l.list l.at l.n l.steps.items l.p l.counter
