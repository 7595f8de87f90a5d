-- Two results that a promise allows are equal. Assumes nothing.
use Prim.Native.Nat.{ℕ}
use mathlib.Core.Path.{◌≡◌, sym, ◌∙◌}
use mathlib.Core.List.{List}
use Rattle.model.specs.Task.{Task}
use Rattle.table.specs.declared.Verdict.{Verdict}
use Rattle.analysis.specs.Analysis.{Gives}
use Rattle.demands.specs.Unique.{OneOnly, Unique}

-- what is equal to one thing is equal
same : {A : Type 0} (f r q : A) → r ≡ f → q ≡ f → r ≡ q
same f r q e d = e ∙ sym d

-- what an analysis gives, of a file or of a table
pub gives_one : (v : Verdict) (rows : List Task) (room : List ℕ) → OneOnly (Gives v rows room)
gives_one v rows room r q left other a b = (same _ r q a.answer b.answer, same _ left other a.left b.left)

-- all of them
pub unique : Unique
unique =
    record {
      put = λ v out r q left other a b. (same _ r q a.size b.size, same _ left other a.bytes b.bytes);
      writes = λ fault new out r q left other a b. (same _ r q a.answer b.answer, same _ left other a.bytes b.bytes);
      table = λ t core room. gives_one _ _ room;
      analyses = λ s core room. gives_one _ _ room;
    }
