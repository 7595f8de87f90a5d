-- `table::judge_all` meets its contract. No number before this one has a fault. Assumes nothing.
use Rattle.std.specs.Prelude.{◌≡◌}
use Rattle.std.specs.Iterator.Adapters.{zip_first, zip_second}
use Rattle.std.specs.Slice.Iter.{iter_rest}
use Rattle.table.specs.Fields.{fault_in}
use Rattle.table.proofs.judge_all.Given as goal

abbrev pub invariant-loop-n : goal.invariant-loop-n
invariant-loop-n l =
    fault_in l.wanted l.carried l.numbers
    ≡ fault_in (iter_rest (zip_second l.n-iterator)) l.carried (iter_rest (zip_first l.n-iterator))
