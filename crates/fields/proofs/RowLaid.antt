-- A row read into memory, its fields and then its times behind those that are there. Assumes nothing.
use Prim.Native.Nat.{ℕ, ◌+◌, ◌-◌, ◌≤◌, ◌<◌}
use native.Mathlib.Omega.{arith}
use mathlib.Core.Path.{◌≡◌, refl, ap}
use mathlib.Core.List.{List, [], ◌∷◌, ◌++◌}
use lib.ListN.{length, take, drop, set}
use Rattle.std.specs.Prelude.{Ok}
use Rattle.lists.proofs.Parts.{part_length}
use Rattle.lists.proofs.Splices.{splice_sets}
use Rattle.model.specs.Task.{Task}
use Rattle.table.specs.declared.Row.{Row}
use Rattle.table.specs.declared.Table.{Table}
use Rattle.table.specs.declared.Verdict.{Verdict}
use Rattle.table.specs.Fields.{head}
use Rattle.table.specs.Memory.{task_of}
use Rattle.table.proofs.Heads.{GoodHead}
use Rattle.table.proofs.Laid.{Laid, laid_sets, laid_stored}
use Rattle.fields.specs.Ways.{Way}
use Rattle.fields.specs.Stepping.{Step, stop, go, fields_at}
use Rattle.fields.specs.Ways.{number_by, times_by, row_in}
use Rattle.fields.specs.Promises.{as_row, RowStored, SoFar}
use Rattle.fields.proofs.Taken.{head_read}
use Rattle.fields.proofs.HeadRead.{got_head}
use Rattle.fields.proofs.RowRead.{row-fields_stop, row-times_stop, row_more}
use Rattle.fields.proofs.TimesRead.{times-count}
use Rattle.fields.proofs.Ways.{in_way}

module _ (way : Way) (s : List ℕ) (used at : ℕ) (row : Row) (p : ℕ)
    (e : Ok (record { value = row; next = p }) ≡ as_row (fields_at (number_by way s) (head used) [] at)) where
  -- its fields are in their ranges
  pub good-row : GoodHead used row
  good-row = let g = got_head _ _ e in rw g.is at (head_read (in_way way s) used at g.fields p g.first)

  -- as the code needs them
  pub row_fits : (1 ≤ row.parts) × (row.parts ≤ 64) × (used + row.parts ≤ 1024)
  row_fits = let g = good-row in (g.parts.least, g.parts.most, g.room)

  module _ (times : List ℕ) (all : length times ≡ 1024) where
    -- the part of the times that is lent has a place for each
    slot : length (take (used + row.parts - used) (drop used times)) ≡ row.parts
    slot = part_length used row.parts times (rw all good-row.room)

    -- they are refused
    pub times_refused : (v : Verdict) → times_by way s (length (take (used + row.parts - used) (drop used times))) p ≡ stop v
        → row_in way s used at ≡ stop v
    times_refused v f = row-times_stop (number_by way s) (times_by way s) used at row p e v (rw slot at f)

    -- they are read, and stand behind those that are there
    pub row-stored : (part : List ℕ) (n : ℕ) → times_by way s (length (take (used + row.parts - used) (drop used times))) p ≡ go part n
        → RowStored (row_in way s used at) used times row n
        (take used times ++ (part ++ drop (used + row.parts - used) (drop used times)))
    row-stored part n f =
        let own : times_by way s row.parts p ≡ go part n = rw slot at f in
        let full : length part ≡ row.parts = times-count way s row.parts p part n good-row.parts.least own in
        record {
          task = task_of row part;
          read = row_more (number_by way s) (times_by way s) used at row p e part n own;
          is = rw full;
          room = good-row.room;
          stored = splice_sets times used row.parts part full (rw all good-row.room);
        }

-- what the code needs
pub ruleset fields_then_times = (row-fields_stop, row_fits, part_length)

-- so a table grows by a row
module _ {done : List Task} {t : Table} {used : ℕ} (far : SoFar done t used) where
  -- the tasks so far lie there
  laid : Laid done t.rows t.times t.count used
  laid = record {
    number = ap (λ (t : Table). t.count) far.is;
    total = far.total;
    rows_are = ap (λ (t : Table). t.rows) far.is;
    times_are = ap (λ (t : Table). t.times) far.is;
  }

  -- and with one more
  pub grown : {x : Step Task} {row : Row} {n : ℕ} {times : List ℕ} → t.count < 64 → RowStored x used t.times row n times
      → (task : Task) × (x ≡ go task n)
      × SoFar (done ++ (task ∷ [])) (record { count = t.count + 1; rows = set t.rows t.count row; times = times }) (used + row.parts)
  grown few r =
      let next = laid_sets laid r.task _ r.task.times r.is refl _ few (rw r.is at r.room) r.stored in
      (r.task, r.read, record { few = omega (arith, next.number); is = laid_stored next; total = next.total; room = r.room })
