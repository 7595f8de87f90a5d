-- New behind what is new already, stored in a part that is lent to the end and put back. Assumes nothing.
use Prim.Native.Nat.{ℕ, ◌+◌, ◌-◌, ◌≤◌}
use native.Mathlib.Omega.{arith}
use mathlib.Core.Path.{◌≡◌, ap, ◌∙◌}
use mathlib.Core.List.{List, ◌++◌, append-nil}
use lib.ListN.{length, take, drop, drop_of_length-le}
use lib.Seq.{sets}
use Rattle.lists.specs.Lists.{over}
use Rattle.lists.proofs.Stores.{sets-from}
use Rattle.lists.proofs.Overs.{over-length, over_more}

module _ {A : Type 0} (new old more l : List A) (p : ℕ) (so_far : l ≡ over new old) (place : p ≡ length new)
    (room : p + length more ≤ length old) where
  -- the length is still that of the old
  pub new_long : length l ≡ length old
  new_long = ap length so_far ∙ over-length new old (omega arith)

  -- with more stored at the front of the part, all of it is new
  pub new_behind : (part : List A) → part ≡ sets (take (length l - p) (drop p l)) 0 more
      → take p l ++ (part ++ drop (length l - p) (drop p l)) ≡ over (new ++ more) old
  new_behind part e =
      let put : take p l ++ (part ++ drop (length l - p) (drop p l)) ≡ sets l p more
      = rw e (sets-from l p more (omega (arith, new_long))) in
      put ∙ rw (so_far, place) (over_more new old more (omega arith))

-- new that is as long as the old takes its place
pub over-full : {A : Type 0} (new old : List A) → length old ≤ length new → over new old ≡ new
unfolding over
over-full new old h = rw (drop_of_length-le old h) (append-nil new)
