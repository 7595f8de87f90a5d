-- How far reading a text gets, said without the reader: the fields before a place all stand there and are what they may be.
use Rattle.std.specs.Prelude.{ℕ, ◌+◌, ◌-◌, ◌≤◌, ◌<◌, ◌≡◌, Bool, true, false, List, [], ◌∷◌, ◌++◌, length, drop, replicate}
use Rattle.text.specs.Text.{decimal}
use Rattle.model.specs.Task.{Task}
use Rattle.table.specs.declared.Wanted.{Wanted}
use Rattle.table.specs.Fields.{time, row_from}
use Rattle.table.specs.Memory.{task_of}
use Rattle.fields.specs.declared.Ending.{Ending}
use Rattle.fields.specs.declared.Ending.TheVariants.{Comma, Line, Text}
use Rattle.fields.specs.TextFields.{comma, quote}
use Rattle.comma.specs.Writing.{line_end}
use Rattle.demands.specs.Reached.{MayBe, Along, its_fields}

-- ---- one field

-- a field's text: a decimal number without leading zeros, which may be quoted
pub data FieldText (v : ℕ) : List ℕ → Type 0 where
  plain : FieldText v (decimal v)
  quoted : FieldText v (quote ∷ (decimal v ++ (quote ∷ [])))

-- its stop: a comma, a line end or the text's end
abbrev pub stop_bytes : Ending → List ℕ
stop_bytes Comma = comma ∷ []
stop_bytes Line = line_end
stop_bytes Text = []

-- a field of this value begins at a place, its stop stands at `end`, and behind it the next field begins
pub record FieldStands (s : List ℕ) (at v : ℕ) (ending : Ending) (end next : ℕ) : Type 0 where
  pub text : List ℕ
  pub field : FieldText v text
  pub stand : drop at s ≡ text ++ (stop_bytes ending ++ drop next s)
  pub stop : end ≡ at + length text
  pub past : next ≡ end + length (stop_bytes ending)
  pub text_end : ending ≡ Text → length s ≤ next

-- no field and its stop stand there
abbrev pub NoField : List ℕ → ℕ → Type 0
NoField s at = (v : ℕ) (ending : Ending) (end next : ℕ) → FieldStands s at v ending end next → ⊥

-- bytes can go on: with some bytes behind them they are a field and its stop
pub record CanGoOn (bytes : List ℕ) : Type 0 where
  pub more : List ℕ
  pub v : ℕ
  pub ending : Ending
  pub text : List ℕ
  pub field : FieldText v text
  pub whole : bytes ++ more ≡ text ++ stop_bytes ending

-- a stop fits: a comma where other fields follow in the line, and behind the last the end of the line or of the text
pub data StopFits : Bool → Ending → Type 0 where
  follow : StopFits false Comma
  line : StopFits true Line
  text : StopFits true Text

-- a field stands there that is what it may be, and its stop fits
pub record Holds (s : List ℕ) (last : Bool) (w : Wanted) (at v next : ℕ) : Type 0 where
  pub ending : Ending
  pub end : ℕ
  pub stands : FieldStands s at v ending end next
  pub may : MayBe w v
  pub fits : StopFits last ending

-- ---- lines

-- a row's times but the last, once its fields are read
abbrev pub but_last : List ℕ → List Wanted
but_last fields = replicate ((row_from fields).parts - 1) time

-- these rows stand in front of a place, a line each, at most 64
-- Set A's first line, `1,0,0,3,5,5,1,1` and a line end, has 17 bytes: Lines s [] 0 by `none`, then Lines s (a1 ∷ []) 17 by `more`:
-- seven fields from 0 to 14, no time but the last, and the last from 14 to 17
pub data Lines (s : List ℕ) : List Task → ℕ → Type 0 where
  none : Lines s [] 0
  more : {at m n next last : ℕ} {done : List Task} {fields times : List ℕ}
      → Lines s done at → length done < 64 → at < length s
      → Along (Holds s false) (its_fields done) at fields [] m → Along (Holds s false) (but_last fields) m times [] n
      → Holds s true time n last next
      → Lines s (done ++ (task_of (row_from fields) (times ++ (last ∷ [])) ∷ [])) next

-- after the fields before it, all fine, this field is wanted at a place; `true` where it is the last of its line
pub data WantsField (s : List ℕ) : ℕ → Bool → Wanted → Type 0 where
  of_fields : {at m : ℕ} {done : List Task} {fields : List ℕ} {w : Wanted} {ws : List Wanted}
      → Lines s done at → length done < 64 → at < length s → Along (Holds s false) (its_fields done) at fields (w ∷ ws) m
      → WantsField s m false w
  of_times : {at m n : ℕ} {done : List Task} {fields times : List ℕ} {w : Wanted} {ws : List Wanted}
      → Lines s done at → length done < 64 → at < length s → Along (Holds s false) (its_fields done) at fields [] m
      → Along (Holds s false) (but_last fields) m times (w ∷ ws) n → WantsField s n false w
  of_last : {at m n : ℕ} {done : List Task} {fields times : List ℕ}
      → Lines s done at → length done < 64 → at < length s → Along (Holds s false) (its_fields done) at fields [] m
      → Along (Holds s false) (but_last fields) m times [] n → WantsField s n true time
