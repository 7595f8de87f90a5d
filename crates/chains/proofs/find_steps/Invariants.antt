-- `chains::find_steps` meets its contract: step by step, each looked for in the rows. Assumes nothing.
use Rattle.table.specs.Memory.{tasks_of}
use Rattle.chains.proofs.Finding.{Finding}
use Rattle.chains.proofs.find_steps.Given as goal

abbrev pub invariant-loop-i : goal.invariant-loop-i
invariant-loop-i l = Finding (tasks_of l.t.table) l.steps l.spots.items l.i
