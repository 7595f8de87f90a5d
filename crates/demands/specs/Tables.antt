-- Document 01, "Codes and what they leave", for a table in memory: when it is refused, before it is written or analysed.
use Rattle.std.specs.Prelude.{ℕ, suc, ◌+◌, ◌≤◌, ◌<◌, ◌≡◌, ◌↔◌, List, ◌∷◌, ◌++◌, length, take, drop, replicate}
use Rattle.lists.specs.Lists.{over}
use Rattle.model.specs.Rows.{Within}
use Rattle.model.specs.Bounds.{on_core}
use Rattle.table.specs.declared.Row.{Row}
use Rattle.table.specs.declared.Table.{Table}
use Rattle.table.specs.declared.Verdict.{Verdict}
use Rattle.table.specs.declared.Verdict.TheVariants as C
use Rattle.table.specs.Verdicts.{code_of}
use Rattle.table.specs.declared.Wanted.{Wanted}
use Rattle.table.specs.Fields.{head, time, fields_of}
use Rattle.table.specs.Memory.{used_rows, tasks_of}
use Rattle.table.specs.declared.Written.{Written}
use Rattle.files.specs.Writing.{file_of, Wrote}
use Rattle.files.specs.RoundTrips.{InMemory}
use Rattle.analysis.specs.declared.Analysed.{Analysed}
use Rattle.analysis.specs.Analysis.{Analyses, AnalysesTable}
use Rattle.demands.specs.Reached.{MayBe}
use Rattle.demands.specs.Rules.{ClashRule, GoodFile, CoreRule}

-- what a row is to have, with `used` times before it: its fields in file order, then its times
abbrev pub row_wants : ℕ → Row → List Wanted
row_wants used r = head used ++ replicate r.parts time

-- and what it has
abbrev pub row_has : Row → List ℕ → List ℕ
row_has r times = fields_of r ++ take r.parts times

-- x stands in a row where w is wanted, and the numbers before it are all what they may be
pub data InRow : List Wanted → List ℕ → Wanted → ℕ → Type 0 where
  here : {w : Wanted} {ws : List Wanted} {x : ℕ} {xs : List ℕ} → InRow (w ∷ ws) (x ∷ xs) w x
  more : {w u : Wanted} {ws : List Wanted} {x y : ℕ} {xs : List ℕ} → MayBe w x → InRow ws xs u y → InRow (w ∷ ws) (x ∷ xs) u y

-- all of a row's numbers are
abbrev pub RowFine : List Wanted → List ℕ → Type 0
RowFine ws xs = (w : Wanted) (x : ℕ) → InRow ws xs w x → MayBe w x

-- x stands in row n where w is wanted, and the numbers before it, row by row from row i on, are all what they may be
pub data InRows : ℕ → ℕ → List Row → List ℕ → ℕ → Wanted → ℕ → Type 0 where
  this : {i used : ℕ} {r : Row} {rs : List Row} {times : List ℕ} {w : Wanted} {x : ℕ}
      → InRow (row_wants used r) (row_has r times) w x → InRows i used (r ∷ rs) times i w x
  later : {i used n : ℕ} {r : Row} {rs : List Row} {times : List ℕ} {w : Wanted} {x : ℕ}
      → RowFine (row_wants used r) (row_has r times) → InRows (suc i) (used + r.parts) rs (drop r.parts times) n w x
      → InRows i used (r ∷ rs) times n w x

-- number x of row n of a table, with the numbers before it all what they may be
abbrev pub InTable : Table → ℕ → Wanted → ℕ → Type 0
InTable t n w x = InRows 0 0 (used_rows t) t.times n w x

-- a row count above 64 is 3 with number 64; then row by row, each row's fields in file order, 3 or 7 with the row as number;
-- then 4, 5, 6
pub data TableRule (t : Table) : Verdict → Type 0 where
  count : 64 < t.count → TableRule t (C.OutOfRange 64)
  out : {n x : ℕ} {w : Wanted} → t.count ≤ 64 → InTable t n w x → (Within w.low w.high x → ⊥) → TableRule t (C.OutOfRange n)
  too_many : {n x : ℕ} {w : Wanted} → t.count ≤ 64 → InTable t n w x → Within w.low w.high x → w.left < x
      → TableRule t (C.TooManyTimes n)
  rows : {v : Verdict} → t.count ≤ 64 → ((n x : ℕ) (w : Wanted) → InTable t n w x → MayBe w x) → ClashRule (used_rows t) v
      → TableRule t v

-- writing a table as these bytes: then 10 with the bytes needed
pub data WriteRule (t : Table) (new : List ℕ) (room : ℕ) : Verdict → Type 0 where
  fault : {v : Verdict} → TableRule t v → (v ≡ C.Good → ⊥) → WriteRule t new room v
  short : TableRule t C.Good → room < length new → WriteRule t new room (C.NoRoom (length new))
  good : TableRule t C.Good → length new ≤ room → WriteRule t new room C.Good

-- analysis of a table in memory: then the codes of the core
pub data MemoryRule (t : Table) (core room : ℕ) : Verdict → Type 0 where
  fault : {v : Verdict} → TableRule t v → (v ≡ C.Good → ⊥) → MemoryRule t core room v
  analysed : {v : Verdict} → TableRule t C.Good → CoreRule core (on_core core (tasks_of t)) room v → MemoryRule t core room v

-- what writing says and leaves: refused writing changes no byte, and bytes past the written ones stay
pub record WriteSays (t : Table) (new out : List ℕ) (r : Written) (out' : List ℕ) : Type 0 where
  pub codes : (v : Verdict) → (r.verdict ≡ v) ↔ WriteRule t new (length out) v
  pub kept : (code_of r.verdict ≡ 0 → ⊥) → (out' ≡ out) × (r.count ≡ 0)
  pub written : code_of r.verdict ≡ 0 → (out' ≡ over new out) × (r.count ≡ length new)

-- a good table is analysed as the file that it is written as, so that demands 2 and 3 are about tables too
pub record AsFile (t : Table) : Type 0 where
  pub file : GoodFile (file_of t) (tasks_of t)
  pub same : (core : ℕ) (room : List ℕ) (r : Analysed) (room' : List ℕ)
      → AnalysesTable t core room r room' ↔ Analyses (file_of t) core room r room'

-- tables in memory
pub record Tables : Type 0 where
  pub writing : (t : Table) (out : List ℕ) (r : Written) (out' : List ℕ) → Wrote t out r out'
      → WriteSays t (file_of t) out r out'
  pub codes : (t : Table) → InMemory t → (core : ℕ) (room : List ℕ) (r : Analysed) (room' : List ℕ)
      → AnalysesTable t core room r room'
      → (v : Verdict) → (r.verdict ≡ v) ↔ MemoryRule t core (length room) v
  -- a table with a fault of its own changes nothing lent
  pub kept : (t : Table) (core : ℕ) (room : List ℕ) (r : Analysed) (room' : List ℕ) → AnalysesTable t core room r room'
      → (TableRule t C.Good → ⊥) → (room' ≡ room) × (r.count ≡ 0)
  pub good : (t : Table) → InMemory t → TableRule t C.Good → AsFile t
