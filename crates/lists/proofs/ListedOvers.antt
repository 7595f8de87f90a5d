-- Laws of a list that is made by counting and stored over an old one, element by element. Assumes nothing.
use Prim.Native.Nat.{ℕ, suc, ◌<◌}
use native.Mathlib.Nat.{add-zero}
use native.Mathlib.Omega.{arith}
use mathlib.Core.Path.{◌≡◌, sym, ap, subst, ◌∙◌}
use mathlib.Core.List.{List, append-nil}
use lib.ListN.{length, drop, get_or, set, drop_of_length-le}
use lib.Seq.{get_or-append-add, get_or-drop}
use Rattle.lists.specs.Lists.{listed, over}
use Rattle.lists.proofs.Listed.{listed-length}
use Rattle.lists.proofs.Each.{listed_snoc}
use Rattle.lists.proofs.Overs.{over-one}

-- behind the new the old stands
over-at : {A : Type 0} (new old : List A) (d : A) → get_or (over new old) (length new) d ≡ get_or old (length new) d
unfolding over
over-at new old d =
    simp add-zero at (get_or-append-add new (drop (length new) old) 0 d ∙ get_or-drop (length new) old 0 d)

module _ {A : Type 0} (h : ℕ → A) (old : List A) where
  -- so it does where the next one goes
  pub over-listed-at : (n : ℕ) (d : A) → get_or (over (listed h n) old) n d ≡ get_or old n d
  over-listed-at n d = subst (λ (k : ℕ). get_or (over (listed h n) old) k d ≡ get_or old k d) (listed-length h n) (over-at (listed h n) old d)

  -- the next one is stored
  pub over-listed-set : (n : ℕ) → n < length old → set (over (listed h n) old) n (h n) ≡ over (listed h (suc n)) old
  over-listed-set n q =
      let same : length (listed h n) ≡ n = listed-length h n in
      ap (λ (k : ℕ). set (over (listed h n) old) k (h n)) (sym same)
      ∙ over-one (listed h n) old (h n) (omega arith)
      ∙ ap (λ (l : List A). over l old) (sym (listed_snoc h n))

  -- once all are stored nothing of the old is left
  pub over-listed-all : (n : ℕ) → length old ≡ n → over (listed h n) old ≡ listed h n
  unfolding over
  over-listed-all n e =
      rw (listed-length h n, drop_of_length-le old {i = n} (omega arith), append-nil)
