-- A part of a list that is lent, from p and n long, and put back with other elements in it. Assumes nothing.
use Prim.Native.Nat.{ℕ, ◌+◌, ◌-◌, ◌≤◌}
use native.Mathlib.Nat.{add-sub_cancel_left}
use mathlib.Core.Path.{◌≡◌, sym, ◌∙◌}
use mathlib.Core.List.{List, ◌++◌, append_assoc}
use lib.ListN.{length, take, drop}
use lib.Seq.{sets, sets-eq, drop-drop}

-- what was put in is stored there
pub splice_sets : {A : Type 0} (l : List A) (p n : ℕ) (a : List A) → length a ≡ n → p + n ≤ length l
    → take p l ++ (a ++ drop (p + n - p) (drop p l)) ≡ sets l p a
splice_sets l p n a e h =
    rw (add-sub_cancel_left, drop-drop) (sym (sets-eq a l p (rw e h) ∙ rw (append_assoc, e)))
