-- Laws of `each` over the first elements of a list, and of `each` twice. Assumes nothing.
use Prim.Native.Nat.{ℕ, ◌+◌, ◌≤◌, ◌<◌}
use native.Mathlib.Numerals.{add-one}
use native.Mathlib.Omega.{arith}
use mathlib.Core.Path.{◌≡◌, refl, sym, ap, ◌∙◌}
use mathlib.Core.List.{List, [], ◌∷◌, ◌++◌}
use lib.ListN.{length, get_or, take, drop, length-append, take-append-drop}
use lib.Seq.{take-suc}
use Rattle.lists.specs.Lists.{each}
use Rattle.lists.proofs.Each.{each_append, each_snoc}

module _ {A B : Type 0} (f : A → List B) (xs : List A) (i : ℕ) where
  -- through a place: what is made of the element there stands last
  pub each-through : (d : A) → i < length xs → each f (take (i + 1) xs) ≡ each f (take i xs) ++ f (get_or xs i d)
  each-through d h = rw (add-one, take-suc xs i d) (each_snoc f (take i xs) (get_or xs i d))

  -- what is made of the first elements is no longer than what is made of all
  pub each_within : length (each f (take i xs)) ≤ length (each f xs)
  each_within =
      let parts : each f xs ≡ each f (take i xs) ++ each f (drop i xs)
      = ap (each f) (sym (take-append-drop i xs)) ∙ each_append f (take i xs) (drop i xs) in
      omega (arith, ap length parts, length-append (each f (take i xs)) (each f (drop i xs)))

-- of all that is made of each element
pub each-each : {A B C : Type 0} (f : B → List C) (g : A → List B) (xs : List A) → each f (each g xs) ≡ each (λ x. each f (g x)) xs
unfolding each
each-each f g [] = refl
each-each f g (x ∷ xs) = each_append f (g x) (each g xs) ∙ ap (◌++◌ (each f (g x))) (each-each f g xs)
