-- Where each bound stands among those of a core, and each time among those of a table. Assumes nothing.
use Prim.Native.Nat.{ℕ, zero, suc, ◌+◌, ◌<◌}
use native.Mathlib.Omega.{arith}
use mathlib.Core.Path.{◌≡◌, refl, ap}
use mathlib.Core.List.{List, [], ◌∷◌, ◌++◌, map}
use lib.ListN.{length, get_or, take}
use Rattle.lists.specs.Lists.{each, over, total, Place}
use Rattle.lists.proofs.Listed.{listed-length}
use Rattle.lists.proofs.Totals.{total_same}
use Rattle.lists.proofs.EachPlaces.{place_left, place_listed, place_each}
use Rattle.model.specs.Task.{Task, parts, part}
use Rattle.model.specs.Bounds.{bound, row_bounds}
use Rattle.table.specs.Memory.{all_times}
use Rattle.analysis.specs.Analysis.{core_bounds}
use Rattle.demands.specs.Demand3.{place_of}

-- at a place stands what is looked up there
place_here : (xs : List ℕ) (i : ℕ) → i < length xs → Place xs i (get_or xs i 0)
unfolding Place
place_here [] i lt = absurd (omega arith)
place_here (x ∷ xs) zero lt = refl
place_here (x ∷ xs) (suc i) lt = place_here xs i (omega arith)

module _ {A B : Type 0} where
  -- what is made of an element stands where it stands
  pub place_made : (f : A → B) (xs : List A) (i : ℕ) (x : A) → Place xs i x → Place (map f xs) i (f x)
  unfolding Place
  place_made f [] i x p = absurd p
  place_made f (y ∷ ys) zero x p = ap f p
  place_made f (y ∷ ys) (suc i) x p = place_made f ys i x p

  -- and what stands there was made of it
  pub made_place : (f : A → B) (xs : List A) (i : ℕ) (z : B) → Place (map f xs) i z → (x : A) × Place xs i x × (f x ≡ z)
  unfolding Place
  made_place f [] i z p = absurd p
  made_place f (y ∷ ys) zero z p = (y, refl, p)
  made_place f (y ∷ ys) (suc i) z p = made_place f ys i z p

-- where lists are made of elements, n of each, one stands behind those of the elements before
each_placed : {A B : Type 0} (f : A → List B) (n : A → ℕ) → ((u : A) → length (f u) ≡ n u)
    → (ts : List A) (rest : List B) (i : ℕ) (t : A)
    → Place ts i t → (p : ℕ) (x : B) → Place (f t) p x → Place (each f ts ++ rest) (total n (take i ts) + p) x
each_placed f n own ts rest i t l p x q =
    place_left (each f ts) rest _ x
    (rw (total_same (λ u. length (f u)) n (take i ts) (λ u m. own u)) at (place_each f ts i t l p x q))

-- the bound of part p of row i stands behind those of the rows before it
pub bound_placed : (rows : List Task) (room : List ℕ) (i : ℕ) (row : Task) → Place rows i row → (p : ℕ) → p < parts row
    → Place (over (core_bounds rows) room) (place_of rows i p) (bound rows row p)
unfolding over core_bounds row_bounds
bound_placed rows room i row l p h =
    each_placed (row_bounds rows) parts (λ u. listed-length (bound rows u) (parts u)) rows _ i row l p _
    (place_listed (bound rows row) (parts row) p h)

-- and so does its time
pub time_placed : (ts : List Task) (rest : List ℕ) (i : ℕ) (t : Task) → Place ts i t → (p : ℕ) → p < parts t
    → Place (all_times ts ++ rest) (place_of ts i p) (part t p)
unfolding parts part
time_placed ts rest i t l p h = each_placed (λ u. u.times) parts (λ u. refl) ts rest i t l p _ (place_here t.times p h)
