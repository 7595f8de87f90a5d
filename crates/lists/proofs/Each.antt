-- Laws of `each`: what is made of each element, one after another. Assumes nothing.
use Prim.Native.Nat.{ℕ, zero, suc, ◌+◌}
use mathlib.Core.Path.{◌≡◌, refl, ap, ap₂, ◌∙◌}
use mathlib.Core.List.Memᴰ
use mathlib.Core.List.{List, [], ◌∷◌, ◌++◌, map, append_assoc, append-nil}
use lib.ListN.{length, length-append}
use Rattle.lists.specs.Lists.{◌∈◌, each, total, listed}

module _ {A B : Type 0} where
  -- of two lists, one behind the other
  pub each_append : (f : A → List B) (xs ys : List A) → each f (xs ++ ys) ≡ each f xs ++ each f ys
  unfolding each
  each_append f [] ys = refl
  each_append f (x ∷ xs) ys = rw append_assoc (ap (◌++◌ (f x)) (each_append f xs ys))

  -- one element more: what is made of it stands last
  pub each_snoc : (f : A → List B) (xs : List A) (x : A) → each f (xs ++ (x ∷ [])) ≡ each f xs ++ f x
  unfolding each
  each_snoc f xs x = each_append f xs (x ∷ []) ∙ ap (◌++◌ (each f xs)) (append-nil (f x))

  -- and adds its length
  pub each_snoc_length : (f : A → List B) (xs : List A) (x : A) → length (each f (xs ++ (x ∷ []))) ≡ length (each f xs) + length (f x)
  each_snoc_length f xs x = ap length (each_snoc f xs x) ∙ length-append (each f xs) (f x)

  -- how long all of it is
  pub each-length : (f : A → List B) (xs : List A) → length (each f xs) ≡ total (λ x. length (f x)) xs
  unfolding each total
  each-length f [] = refl
  each-length f (x ∷ xs) = length-append (f x) (each f xs) ∙ ap (◌+◌ (length (f x))) (each-length f xs)

  -- what makes the same of each element makes the same of all
  pub each_same : (f g : A → List B) (xs : List A) → ((x : A) → x ∈ xs → f x ≡ g x) → each f xs ≡ each g xs
  unfolding each
  each_same f g [] h = refl
  each_same f g (x ∷ xs) h =
      ap₂ ◌++◌ (h x (Memᴰ.head refl)) (each_same f g xs (λ u m. h u (Memᴰ.tail m)))

-- of a list that is made of another
pub each_map : {A B C : Type 0} (f : B → List C) (g : A → B) (xs : List A) → each f (map g xs) ≡ each (λ x. f (g x)) xs
unfolding each
each_map f g [] = refl
each_map f g (x ∷ xs) = ap (◌++◌ (f (g x))) (each_map f g xs)

-- one more of a list that is made by counting
pub listed_snoc : {A : Type 0} (h : ℕ → A) (n : ℕ) → listed h (suc n) ≡ listed h n ++ (h n ∷ [])
unfolding listed
listed_snoc h zero = refl
listed_snoc h (suc n) = ap (◌∷◌ (h 0)) (listed_snoc (λ i. h (suc i)) n)
