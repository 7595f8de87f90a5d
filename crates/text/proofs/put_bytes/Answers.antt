-- `text::put_bytes` meets its contract: the part of the lent bytes that is copied over. Assumes nothing.
use mathlib.Core.Path.{refl}
use Rattle.lists.proofs.Splices.{splice_sets}
use Rattle.text.proofs.put_bytes.Goals as goal

pub returns : goal.returns
returns c =
    rw c.copy_from_slice.ensures.after record { place = refl; stored = splice_sets _ _ _ _ refl c.requires.room }
