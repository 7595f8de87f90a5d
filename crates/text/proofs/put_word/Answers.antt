-- `text::put_word` meets its contract. Assumes nothing.
use mathlib.Core.Path.{refl}
use mathlib.Core.List.{[], ◌∷◌}
use Rattle.text.proofs.Puts.{starts, byte_put, turn, last}
use Rattle.text.proofs.put_word.Goals as goal

pub returns : goal.returns
returns c =
    let k = turn (starts _ _ _ c.requires) _ (c.args.end ∷ []) refl c.put_bytes-p.ensures in
    last k (byte_put _ _ _)
