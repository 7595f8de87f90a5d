-- `files::write_bytes` meets its contract: no room, or the bytes in front of the rest. Assumes nothing.
use mathlib.Core.Path.{refl}
use Rattle.lists.specs.Lists.{over}
use Rattle.table.specs.declared.Verdict.TheVariants.{Good}
use Rattle.table.proofs.Writes.{refuses_room, writes-all}
use Rattle.files.proofs.write_bytes.Goals as goal

pub returns-then-out-n : goal.returns-then-out-n
returns-then-out-n c = rw c.from.ensures (refuses_room Good _ _ refl _ refl c.if-out-n.true)

pub returns : goal.returns
unfolding over
returns c = rw (c.from-2.ensures, c.copy_from_slice.ensures.after) (writes-all Good _ _ refl _ refl c.if-out-n.false _ refl)
