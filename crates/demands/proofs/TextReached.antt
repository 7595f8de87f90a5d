-- How far reading a text gets, said without the reader, is how far the reader gets. Assumes nothing.
use Prim.Native.Nat.{ℕ, zero, suc, ◌+◌, ◌-◌, ◌≤◌, ◌<◌}
use native.Mathlib.Omega.{arith}
use borrow.Author.Tests.{lt-ltb}
use mathlib.Core.Path.{◌≡◌, refl, ◌∙◌}
use mathlib.Core.Logic.{◌⊎◌, inl, inr, ⊎_elim}
use mathlib.Core.Bool.{Bool, true, false}
use mathlib.Core.List.{List, [], ◌∷◌, ◌++◌}
use lib.ListN.{length, length-append}
use Rattle.lists.proofs.Tests.{either}
use Rattle.model.specs.Task.{Task}
use Rattle.table.specs.declared.Verdict.{Verdict}
use Rattle.table.specs.declared.Verdict.TheVariants.{OutOfRange}
use Rattle.table.specs.declared.Wanted.{Wanted}
use Rattle.table.specs.Fields.{time, row_from}
use Rattle.table.specs.Memory.{task_of, all_times, rows_of}
use Rattle.table.specs.Clash.{clash_of}
use Rattle.fields.specs.Stepping.{Step, stop, ◌then◌, unless, fields_at, row_by}
use Rattle.fields.specs.TextFields.{text_field, text_times}
use Rattle.comma.specs.Reading.{line_at, lines_at, decode_text}
use Rattle.comma.proofs.FieldRead.{field_short}
use Rattle.comma.proofs.LinesSteps.{lines_end}
use Rattle.demands.specs.Reached.{Along, its_fields}
use Rattle.demands.specs.TextReached.{Holds, but_last, Lines, WantsField}
use Rattle.demands.specs.Texts.{WholeText}
use Rattle.demands.proofs.Along.{AllStand, stopped_or-not, along_read, fields_reached}
use Rattle.demands.proofs.FieldRule.{in_text}

-- ---- from the words to the reader

-- what follows the lines: 4, 5 and 6
ended : List Task → ℕ → Step (List Task)
ended tasks at = unless (clash_of (rows_of tasks)) tasks at

module _ {s : List ℕ} where
  -- one line more
  line_read : (k : ℕ) (done : List Task) {at m n next last : ℕ} {fields times : List ℕ} → at < length s
      → Along (Holds s false) (its_fields done) at fields [] m → Along (Holds s false) (but_last fields) m times [] n
      → Holds s true time n last next
      → lines_at (suc k) done s at ≡ lines_at k (done ++ (task_of (row_from fields) (times ++ (last ∷ [])) ∷ [])) s next
  unfolding lines_at line_at text_times row_by fields_at ◌then◌
  line_read k done {at} i f t l =
      rw (lt-ltb at (length s) i, along_read (in_text s false) [] f, along_read (in_text s false) [] t, (in_text s true).read l)

  -- reading goes on behind lines
  lines_read : {at : ℕ} {done : List Task} → Lines s done at → decode_text s ≡ (lines_at (64 - length done) done s at then ended)
  unfolding decode_text ended
  lines_read Lines.none = refl
  lines_read (Lines.more {done = done} r h i f t l) =
      let one : 64 - length done ≡ suc (63 - length done) = omega arith in
      let fewer : 64 - (length done + 1) ≡ 63 - length done = omega arith in
      lines_read r ∙ rw (one, length-append, fewer, line_read (63 - length done) done i f t l)

  -- a line begins where one more may come and the text goes on
  begun_read : {at : ℕ} {done : List Task} → Lines s done at → length done < 64 → at < length s
      → decode_text s
      ≡ ((line_at (length (all_times done)) s at then λ task at. lines_at (63 - length done) (done ++ (task ∷ [])) s at) then ended)
  unfolding lines_at
  begun_read {at} {done} r h i =
      let one : 64 - length done ≡ suc (63 - length done) = omega arith in
      lines_read r ∙ rw (one, lt-ltb at (length s) i)

  -- where the field wanted is refused, so is the text
  pub wants_read : {at : ℕ} {last : Bool} {w : Wanted} {v : Verdict} → WantsField s at last w → text_field last s w at ≡ stop v
      → decode_text s ≡ stop v
  unfolding line_at text_times row_by fields_at ◌then◌
  wants_read (WantsField.of_fields r h i f) e = begun_read r h i ∙ rw (along_read (in_text s false) [] f, e)
  wants_read (WantsField.of_times r h i f t) e =
      begun_read r h i ∙ rw (along_read (in_text s false) [] f, along_read (in_text s false) [] t, e)
  wants_read (WantsField.of_last r h i f t) e =
      begun_read r h i ∙ rw (along_read (in_text s false) [] f, along_read (in_text s false) [] t, e)

  -- line 65 is refused
  pub line65_read : {at : ℕ} {done : List Task} → Lines s done at → length done ≡ 64 → at < length s
      → decode_text s ≡ stop (OutOfRange at)
  unfolding lines_at ◌then◌
  line65_read {at} r e h = lines_read r ∙ rw (e, lt-ltb at (length s) h)

  -- the whole text is read
  pub whole_read : {tasks : List Task} (w : WholeText s tasks) → decode_text s ≡ unless (clash_of (rows_of tasks)) tasks w.at
  unfolding ◌then◌ ended
  whole_read {tasks} w = lines_read w.lines ∙ rw (lines_end tasks s w.at (64 - length tasks) w.last)

  -- a field ends within the text
  holds_inside : {last : Bool} {w : Wanted} {at v next : ℕ} → Holds s last w at v next → next ≤ length s
  holds_inside {last} {w} {at} {v} {next} h = (field_short last s w at v next ((in_text s last).read h)).1

  -- so do fields one after another
  along_inside : {last : Bool} {ws others : List Wanted} {at n : ℕ} {vs : List ℕ} → at ≤ length s → Along (Holds s last) ws at vs others n
      → n ≤ length s
  along_inside i Along.here = i
  along_inside i (Along.more h l) = along_inside (holds_inside h) l

  -- a field is wanted within the text or at its end
  pub wants_inside : {at : ℕ} {last : Bool} {w : Wanted} → WantsField s at last w → at ≤ length s
  wants_inside (WantsField.of_fields r h i f) = along_inside (omega arith) f
  wants_inside (WantsField.of_times r h i f t) = along_inside (along_inside (omega arith) f) t
  wants_inside (WantsField.of_last r h i f t) = along_inside (along_inside (omega arith) f) t

-- ---- from the reader to the words

-- the text stops at a field, or at line 65, or is whole
pub data Reached (s : List ℕ) : Type 0 where
  at_field : {at : ℕ} {last : Bool} {w : Wanted} {v : Verdict} → WantsField s at last w → text_field last s w at ≡ stop v → Reached s
  at_line65 : {tasks : List Task} {at : ℕ} → Lines s tasks at → length tasks ≡ 64 → at < length s → Reached s
  at_end : {tasks : List Task} → WholeText s tasks → Reached s

-- one line more stands there
record OneMore (s : List ℕ) (count : ℕ) : Type 0 where
  done : List Task
  at : ℕ
  lines : Lines s done at
  more : length done ≡ suc count

module _ (s : List ℕ) where
  -- a line
  line_reached : {done : List Task} {at : ℕ} → Lines s done at → length done < 64 → at < length s → Reached s ⊎ OneMore s (length done)
  line_reached {done} {at} r h i =
      ⊎_elim of_fields (λ f. inl (Reached.at_field (WantsField.of_fields r h i f.along) f.refused))
      (fields_reached (in_text s false) (its_fields done) at)
    where
      of_times : (f : AllStand (Holds s false) (its_fields done) at) → AllStand (Holds s false) (but_last f.vs) f.n
          → Reached s ⊎ OneMore s (length done)
      of_times f t =
          ⊎_elim (λ x. inl (Reached.at_field (WantsField.of_last r h i f.along t.along) x.1))
          (λ x.
          inr
          (record {
            done = _;
            at = x.1;
            lines = Lines.more r h i f.along t.along ((in_text s true).stands time t.n x.0 x.1 x.2);
            more = rw length-append (omega arith);
          }))
          (stopped_or-not (text_field true s time t.n))

      of_fields : AllStand (Holds s false) (its_fields done) at → Reached s ⊎ OneMore s (length done)
      of_fields f =
          ⊎_elim (of_times f) (λ t. inl (Reached.at_field (WantsField.of_times r h i f.along t.along) t.refused))
          (fields_reached (in_text s false) (but_last f.vs) f.n)

  -- lines one after another
  lines_reached : (k : ℕ) (done : List Task) (at : ℕ) → Lines s done at → length done + k ≡ 64 → Reached s
  lines_reached zero done at r e =
      ⊎_elim (λ h. Reached.at_line65 r (omega arith) h) (λ h. Reached.at_end (record { at = at; lines = r; last = h }))
      (either at (length s))
  lines_reached (suc k) done at r e =
      ⊎_elim
      (λ h. ⊎_elim (λ x. x) (λ o. lines_reached k o.done o.at o.lines (omega (arith, o.more))) (line_reached r (omega arith) h))
      (λ h. Reached.at_end (record { at = at; lines = r; last = h }))
      (either at (length s))

  -- from the first line on
  pub reached : Reached s
  reached = lines_reached 64 [] 0 Lines.none refl
