-- The sum and the largest of numbers and what a test keeps, as std's iterators give them. Assumes nothing.
use Rattle.std.proofs.Common.{ℕ, Bool, max, Option, unwrap_or, option_map, List, [], ◌∷◌, refl, ◌≡◌, sym, ◌∙◌, ap, arith}
use Rattle.std.proofs.lemmas.List.Recursion.{is_sum_by}
use Rattle.std.proofs.lemmas.Iterator.Adapters.{option_map_id}
use Rattle.std.specs.List as std
use Rattle.lists.specs.Lists.{keep, sum, largest}
use Rattle.lists.proofs.Tests.{by_test}

-- the sum
pub sum_is : (xs : List ℕ) → sum xs ≡ std.sum xs
unfolding sum
sum_is xs = is_sum_by sum (λ x. x) refl (λ _ _. refl) xs

-- a fold of `max` begins with its first number
fold_max : (a : ℕ) (xs : List ℕ) → std.fold max a xs ≡ max a (largest xs)
unfolding largest
fold_max a [] = omega arith
fold_max a (x ∷ xs) = omega (arith, fold_max (max a x) xs)

-- what is picked is the largest, 0 for none
pub largest_is : (o : Option ℕ) (xs : List ℕ) → option_map (λ x. x) o ≡ std.reduce max xs → unwrap_or o 0 ≡ largest xs
unfolding largest
largest_is o [] e = ap (λ p. unwrap_or p 0) (sym (option_map_id o) ∙ e)
largest_is o (x ∷ xs) e = ap (λ p. unwrap_or p 0) (sym (option_map_id o) ∙ e) ∙ fold_max x xs

-- the elements that pass a test
pub keep_is : {A : Type 0} (p : A → Bool) (xs : List A) → std.filter p xs ≡ keep p xs
unfolding keep
keep_is p [] = refl
keep_is p (x ∷ xs) = by_test (p x) (λ e. rw (e, keep_is p xs)) (λ e. rw (e, keep_is p xs))
