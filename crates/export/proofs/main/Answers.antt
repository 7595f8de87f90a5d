-- `export::main` is safe: what was written lies within the buffer. Assumes nothing.
use mathlib.Core.Path.{sym}
use lib.Seq.{length-take-le}
use Rattle.table.proofs.Writes.{count_within}
use Rattle.export.proofs.main.Goals as goal

pub slice_bounds-out-end : goal.slice_bounds-out-end
slice_bounds-out-end c = count_within _ _ _ _ _ c.write-wrote.ensures

pub slice_bounds-write_all-end : goal.slice_bounds-write_all-end
slice_bounds-write_all-end c = sym (length-take-le _ _ (count_within _ _ _ _ _ c.write-wrote.ensures))
