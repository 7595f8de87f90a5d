-- Laws of `over`: new in front, and the rest of the old stays. Assumes nothing.
use Prim.Native.Nat.{ℕ, ◌+◌, ◌≤◌, ◌<◌}
use native.Mathlib.Nat.{zero-add}
use native.Mathlib.Omega.{arith}
use mathlib.Core.Path.{◌≡◌, refl, sym, ap, ◌∙◌}
use mathlib.Core.List.{List, [], ◌∷◌, ◌++◌, append_assoc}
use lib.ListN.{length, get_or, take, drop, set, length-append, length-drop, get_or-append}
use lib.Seq.{sets, sets-eq, take-append_seam, drop-append_seam, drop-drop, get_or-append-add}
use Rattle.lists.specs.Lists.{over}
use Rattle.lists.proofs.Stores.{sets-append}

module _ {A : Type 0} where
  -- nothing new: all stays
  pub over_none : (old : List A) → over [] old ≡ old
  unfolding over
  over_none old = refl

  -- where the new fits, the length stays
  pub over-length : (new old : List A) → length new ≤ length old → length (over new old) ≡ length old
  unfolding over
  over-length new old h = rw (length-append, length-drop) (omega arith)

  -- the new is in front
  pub take-over : (new old : List A) → take (length new) (over new old) ≡ new
  unfolding over
  take-over new old = take-append_seam new _

  -- and the rest behind it
  pub drop-over : (new old : List A) → drop (length new) (over new old) ≡ drop (length new) old
  unfolding over
  drop-over new old = drop-append_seam new _

  -- so it is after a run of stores at the front
  pub over-sets : (new old : List A) → length new ≤ length old → sets old 0 new ≡ over new old
  unfolding over
  over-sets new old h = sets-eq new old 0 (omega arith) ∙ rw zero-add

  -- a run stored behind the new is new too
  pub over_more : (new old more : List A) → length new + length more ≤ length old
      → sets (over new old) (length new) more ≡ over (new ++ more) old
  over_more new old more h =
      let all : length (new ++ more) ≤ length old = rw length-append h in
      ap (λ (l : List A). sets l (length new) more) (sym (over-sets new old (omega arith)))
      ∙ ap (λ (p : ℕ). sets (sets old 0 new) p more) (sym (zero-add (length new)))
      ∙ sym (sets-append old 0 new more)
      ∙ over-sets (new ++ more) old all

  -- so is one element
  pub over-one : (new old : List A) (x : A) → length new < length old → set (over new old) (length new) x ≡ over (new ++ (x ∷ [])) old
  over-one new old x h = over_more new old (x ∷ []) (omega arith)

  -- so is a part that was lent and put back
  pub over-part : (new old more : List A) (n : ℕ) → n ≡ length more
      → take (length new) (over new old) ++ (more ++ drop n (drop (length new) (over new old))) ≡ over (new ++ more) old
  unfolding over
  over-part new old more n e =
      rw (take-append_seam, drop-append_seam, drop-drop, length-append, e) (sym (append_assoc new more _))

  -- what stands in it at a place of the last run
  pub over_last : (new old more : List A) (k : ℕ) (d : A) → k < length more
      → get_or (over (new ++ more) old) (length new + k) d ≡ get_or more k d
  unfolding over
  over_last new old more k d h = rw (append_assoc, get_or-append-add) (get_or-append more _ d k h)
