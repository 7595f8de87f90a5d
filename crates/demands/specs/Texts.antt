-- Document 02, §1, "Tables from the spreadsheet": when a text is refused and with which number, in its words, and what is claimed of it.
use Rattle.std.specs.Prelude.{ℕ, suc, ◌+◌, ◌≤◌, ◌<◌, ◌≡◌, ◌↔◌, Bool, List, [], length, take, drop}
use Rattle.model.specs.Task.{Task}
use Rattle.model.specs.Rows.{Within}
use Rattle.table.specs.declared.Table.{Table}
use Rattle.table.specs.declared.Verdict.{Verdict}
use Rattle.table.specs.declared.Verdict.TheVariants as C
use Rattle.table.specs.declared.Written.{Written}
use Rattle.table.specs.Verdicts.{code_of}
use Rattle.table.specs.declared.Wanted.{Wanted}
use Rattle.table.specs.Memory.{stored, rows_of}
use Rattle.fields.specs.declared.Ending.{Ending}
use Rattle.comma.specs.Reading.{read_text}
use Rattle.comma.specs.Writing.{table_lines, WroteText}
use Rattle.comma.specs.Claims.{ImportIsRead, ExportIsRead}
use Rattle.comma.specs.Claims.{ReadAsFile, WrittenTextIsRead, EmptyTextHasNoRows, ReadTextIsWritten, GoodTextIsShort, UnusedHasNoSayInText}
use Rattle.demands.specs.Reached.{MayBe}
use Rattle.demands.specs.Rules.{ClashRule}
use Rattle.demands.specs.Tables.{WriteSays}
use Rattle.demands.specs.TextReached.{FieldStands, NoField, CanGoOn, StopFits, Lines, WantsField}

-- ---- 17, 3, 7: the field wanted at a place

-- a wanted field is refused
pub data FieldRule (s : List ℕ) (last : Bool) (w : Wanted) (at : ℕ) : Verdict → Type 0 where
  -- a fault of its text: the offset of the first byte that cannot go on
  byte : {n : ℕ} → NoField s at → n < length (drop at s) → CanGoOn (take n (drop at s)) → (CanGoOn (take (suc n) (drop at s)) → ⊥)
      → FieldRule s last w at (C.BadText (at + n))
  -- or, where the text ends too early, its length
  cut : NoField s at → CanGoOn (drop at s) → FieldRule s last w at (C.BadText (length s))
  -- a value out of range: the field's first byte, quote or digit
  out : {v end next : ℕ} {ending : Ending} → FieldStands s at v ending end next → (Within w.low w.high v → ⊥)
      → FieldRule s last w at (C.OutOfRange at)
  -- a total above 1,024: likewise
  over : {v end next : ℕ} {ending : Ending} → FieldStands s at v ending end next → Within w.low w.high v → w.left < v
      → FieldRule s last w at (C.TooManyTimes at)
  -- then whether the stop fits: a wrong number of fields or times
  stop : {v end next : ℕ} {ending : Ending} → FieldStands s at v ending end next → MayBe w v → (StopFits last ending → ⊥)
      → FieldRule s last w at (C.BadText end)

-- ---- the codes of a text

-- the text is these rows
pub record WholeText (s : List ℕ) (tasks : List Task) : Type 0 where
  pub at : ℕ
  pub lines : Lines s tasks at
  pub last : length s ≤ at

-- a text is refused, or has no fault
pub data TextRule (s : List ℕ) : Verdict → Type 0 where
  field : {at : ℕ} {last : Bool} {w : Wanted} {v : Verdict} → WantsField s at last w → FieldRule s last w at v → TextRule s v
  -- line 65: 3 at its first byte, whatever it holds
  line65 : {tasks : List Task} {at : ℕ} → Lines s tasks at → length tasks ≡ 64 → at < length s → TextRule s (C.OutOfRange at)
  -- then 4, 5, 6 as before
  table : {tasks : List Task} {v : Verdict} → WholeText s tasks → ClashRule (rows_of tasks) v → TextRule s v

-- a good text, and the tasks that it has
pub record GoodText (s : List ℕ) (tasks : List Task) : Type 0 where
  pub whole : WholeText s tasks
  pub apart : ClashRule (rows_of tasks) C.Good

-- each refusal exactly when its rule says; a refused text gives a table of zeros, a good one its rows and times
pub record ReadsText (s : List ℕ) : Type 0 where
  pub codes : (v : Verdict) → ((read_text s).verdict ≡ v) ↔ TextRule s v
  pub zeros : (code_of (read_text s).verdict ≡ 0 → ⊥) → (read_text s).table ≡ stored []
  pub rows : (tasks : List Task) → GoodText s tasks → (read_text s).table ≡ stored tasks

-- ---- what is claimed

pub record Texts : Type 0 where
  pub reads : (s : List ℕ) → ReadsText s
  -- the very table that the same rows in a table file give, and its 4, 5, 6
  pub as_file : ReadAsFile
  pub writing : (t : Table) (out : List ℕ) (r : Written) (out' : List ℕ) → WroteText t out r out'
      → WriteSays t (table_lines t) out r out'
  pub written_is_read : WrittenTextIsRead
  pub read_is_written : ReadTextIsWritten
  pub empty : EmptyTextHasNoRows
  pub short : GoodTextIsShort
  -- what the programs import and export write is read as what they were given
  pub imports : ImportIsRead
  pub exports : ExportIsRead
  pub unused : UnusedHasNoSayInText
