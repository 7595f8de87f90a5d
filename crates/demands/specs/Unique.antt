-- Two results that a promise allows are equal, for the promise of each public function that is lent memory.
use Rattle.std.specs.Prelude.{ℕ, ◌≡◌, List}
use Rattle.numbers.specs.Numbers.{Put}
use Rattle.table.specs.declared.Table.{Table}
use Rattle.table.specs.declared.Verdict.{Verdict}
use Rattle.table.specs.Written.{Writes}
use Rattle.analysis.specs.Analysis.{Analyses, AnalysesTable}

-- a promise on a result and what is left in lent memory allows one of each
abbrev pub OneOnly : {A B : Type 0} → (A → B → Type 0) → Type 0
OneOnly {A} {B} P = (r q : A) (left other : B) → P r left → P q other → (r ≡ q) × (left ≡ other)

-- the promises on lent memory; a promise that is an equation allows one result as it stands
pub record Unique : Type 0 where
  pub put : (v : ℕ) (out : List ℕ) → OneOnly (Put v out)
  -- whatever is written: a table file (`Wrote`), a table's text (`WroteText`), a sheet (`Prints`)
  pub writes : (fault : Verdict) (new out : List ℕ) → OneOnly (Writes fault new out)
  pub table : (t : Table) (core : ℕ) (room : List ℕ) → OneOnly (AnalysesTable t core room)
  pub analyses : (s : List ℕ) (core : ℕ) (room : List ℕ) → OneOnly (Analyses s core room)
