-- `files::put_all` meets its contract. The invariant: the bytes of the first numbers are in front. Assumes nothing.
use Prim.Native.Nat.{ℕ, ◌+◌, ◌-◌, ◌≤◌, ◌<◌}
use native.Mathlib.Omega.{arith}
use mathlib.Core.Path.{◌≡◌, refl, sym, ◌∙◌}
use mathlib.Core.List.{List, ◌++◌}
use lib.ListN.{length, get_or, take, drop, length-append}
use Rattle.lists.specs.Lists.{each}
use Rattle.lists.proofs.EachPart.{each-through, each_within}
use Rattle.lists.proofs.Overs.{over_none}
use Rattle.lists.proofs.OverParts.{new_behind}
use Rattle.numbers.specs.Numbers.{encode, encode_all, Put}
use Rattle.files.proofs.put_all.Invariants.{Putting}
use Rattle.files.proofs.put_all.Goals as goal

module _ {out₀ ns out : List ℕ} {p i : ℕ} (fits : length (encode_all ns) ≤ length out₀) (k : Putting out₀ ns out p i) where
  -- the bytes so far have room
  within : p ≤ length out₀
  within = omega (arith, fits, k.place, each_within encode ns i)

  module _ (h : i < length ns) (r : ℕ) (part : List ℕ) (put : Put (get_or ns i 0) (take (length out - p) (drop p out)) r part) where
    -- with one number more
    more : encode_all (take (i + 1) ns) ≡ encode_all (take i ns) ++ encode (get_or ns i 0)
    more = each-through encode ns i 0 h

    -- where it ends
    next : p + r ≡ length (encode_all (take (i + 1) ns))
    next = rw (more, length-append) (omega (arith, k.place, put.size))

    -- it has room
    fits-here : p + r ≤ length out₀
    fits-here = omega (arith, next, fits, each_within encode ns (i + 1))

    -- one number more
    turn : Putting out₀ ns (take p out ++ (part ++ drop (length out - p) (drop p out))) (p + r) (i + 1)
    turn = record {
      place = next;
      put =
          new_behind (encode_all (take i ns)) out₀ (encode (get_or ns i 0)) out p k.put k.place (omega (arith, fits-here, put.size)) part
          put.bytes
          ∙ rw more;
    }

pub loop-n-init : goal.loop-n-init
unfolding each
loop-n-init c = record { place = refl; put = sym (over_none _) }

pub slice_bounds-put_number-count : goal.slice_bounds-put_number-count
slice_bounds-put_number-count c = omega (arith, within c.requires c.loop-n.invariant)

pub slice_bounds-put_number-start : goal.slice_bounds-put_number-start
slice_bounds-put_number-start c = omega (arith, within c.requires c.loop-n.invariant)

pub overflow_add-p : goal.overflow_add-p
overflow_add-p c = omega (arith, fits-here c.requires c.loop-n.invariant c.loop-n-test.true _ _ c.put_number-p.ensures)

pub loop-n-preserved : goal.loop-n-preserved
loop-n-preserved c = turn c.requires c.loop-n.invariant c.loop-n-test.true _ _ c.put_number-p.ensures
