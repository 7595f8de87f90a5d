-- The row to name, kept while the rows are gone through: the highest of those that pass. Assumes nothing.
use mathlib.Core.Path.{◌≡◌, refl, sym, ap, ◌∙◌}
use mathlib.Core.Bool.{Bool, true, false}
use mathlib.Core.List.{List, [], ◌∷◌, ◌++◌}
use mathlib.Core.Option as M
use lib.Dec.{ltb}
use Rattle.std.specs.Prelude.{Option, Some, None, Ok, Err}
use Rattle.lists.proofs.Tests.{by_test}
use Rattle.model.specs.Task.{Task}
use Rattle.model.specs.Bounds.{above, highest}
use Rattle.model.proofs.Highest.{with_next, highest_snoc}
use Rattle.table.specs.declared.Row.{Row}
use Rattle.table.specs.declared.Verdict.TheVariants.{Missed}
use Rattle.table.specs.Memory.{row_of}
use Rattle.analysis.specs.Promises.{higher_row, top_of, said_late}

-- the higher of it and another row
next_top : (o : M.Option Task) (t : Task) → higher_row (top_of o) (row_of t) ≡ top_of (with_next o t)
unfolding top_of with_next above
next_top M.none t = refl
next_top (M.some u) t = by_test (ltb u.priority t.priority) (λ e. rw e) (λ e. rw e)

-- nothing is kept where there is none
pub top_none : (o : M.Option Task) → top_of o ≡ None → o ≡ M.none
unfolding top_of
top_none M.none e = refl
top_none (M.some t) e = cc

-- what is kept is the row of one of them
pub top_some : (o : M.Option Task) {r : Row} → top_of o ≡ Some r → (t : Task) × (o ≡ M.some t) × (r ≡ row_of t)
unfolding top_of
top_some M.none e = cc
top_some (M.some t) e = (t, refl, cc)

-- what is said of the highest late row
pub said_none : (o : M.Option Task) {top : Option Row} → top ≡ top_of o → top ≡ None → Ok tt ≡ said_late o
said_none o e q = sym (ap said_late (top_none o (sym e ∙ q)))

pub said_some : (o : M.Option Task) {top : Option Row} → top ≡ top_of o → {r : Row} → top ≡ Some r → Err (Missed r.id) ≡ said_late o
said_some o e q =
    let w = top_some o (sym e ∙ q) in
    ap (λ (x : Row). Err (Missed x.id)) w.2 ∙ sym (ap said_late w.1)

module _ (p : Task → Bool) (seen : List Task) (t : Task) {top : Option Row} (so_far : top ≡ top_of (highest p seen)) where
  -- a row that passes is looked at
  pub top_next : p t ≡ true → {row : Row} → row ≡ row_of t → {new : Option Row} → new ≡ higher_row top row
      → new ≡ top_of (highest p (seen ++ (t ∷ [])))
  top_next e own is = is ∙ rw (so_far, own, highest_snoc p seen t, e) (next_top (highest p seen) t)

  -- any other is passed over
  pub top_stays : p t ≡ false → top ≡ top_of (highest p (seen ++ (t ∷ [])))
  top_stays e = so_far ∙ rw (highest_snoc p seen t, e)
