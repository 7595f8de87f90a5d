-- Lines that were read are fine rows, and a text without quotes whose lines are ended is the one that they are written as. Assumes nothing.
use Prim.Native.Nat.{ℕ, zero, suc, ◌+◌, ◌≤◌}
use native.Mathlib.Omega.{arith}
use borrow.Author.Tests.{lt-ltb}
use mathlib.Core.Path.{◌≡◌, sym, ◌∙◌}
use mathlib.Core.Logic.{⊎_elim}
use mathlib.Core.List.{List, [], ◌∷◌, ◌++◌, append_assoc, append-nil}
use lib.ListN.{length, drop, drop_of_length-le}
use Rattle.lists.specs.Lists.{each}
use Rattle.lists.proofs.Each.{each_snoc_length}
use Rattle.lists.proofs.Tests.{either}
use Rattle.model.specs.Task.{Task}
use Rattle.table.specs.Memory.{all_times}
use Rattle.table.proofs.GoodTasks.{FineTask, FineTasks}
use Rattle.fields.specs.Stepping.{go}
use Rattle.fields.proofs.Taken.{Between, none_between, both_between, stopped_not, then_read}
use Rattle.fields.proofs.RowRead.{row_back}
use Rattle.comma.specs.Reading.{line_at, lines_at}
use Rattle.comma.specs.Writing.{line_of, lines_of}
use Rattle.comma.specs.Claims.{Plain}
use Rattle.comma.proofs.LinesSteps.{lines_end, lines_over}
use Rattle.comma.proofs.LineBytes.{line-parts, lines_none, lines_more}
use Rattle.comma.proofs.FieldRead.{in_text, times_in_text}

-- what holds behind all lines holds where none is left
lines_ended : (s : List ℕ) (P : ℕ → List Task → ℕ → Type 0) (all : List Task) (n : ℕ) → ((k : ℕ) → length s ≤ n → P k all n)
    → (k : ℕ) (done : List Task) (at : ℕ) → lines_at k done s at ≡ go all n → length s ≤ at → P k done at
lines_ended s P all n end k done at e past =
    let f = sym (lines_end done s at k past) ∙ e in
    let same : done ≡ all = cc in
    let here : at ≡ n = cc in
    rw (same, here) (end k (omega arith))

-- so what holds of a line and those behind it too holds where lines were read
pub lines_by : (s : List ℕ) (P : ℕ → List Task → ℕ → Type 0) (all : List Task) (n : ℕ) → ((k : ℕ) → length s ≤ n → P k all n)
    → ((k : ℕ) (done : List Task) (at : ℕ) (t : Task) (m : ℕ) → line_at (length (all_times done)) s at ≡ go t m
    → P k (done ++ (t ∷ [])) m
    → P (suc k) done at)
    → (k : ℕ) (done : List Task) (at : ℕ) → lines_at k done s at ≡ go all n → P k done at
unfolding lines_at
lines_by s P all n end line zero done at e =
    ⊎_elim (λ h. stopped_not _ (lines_over done s at h) e) (lines_ended s P all n end zero done at e) (either at (length s))
lines_by s P all n end line (suc k) done at e =
    ⊎_elim
    (λ h.
    let r = then_read (line_at (length (all_times done)) s at) (λ task m. lines_at k (done ++ (task ∷ [])) s m) all n
    (rw (lt-ltb at (length s) h) at e) in
    line k done at r.what r.place r.first (lines_by s P all n end line k (done ++ (r.what ∷ [])) r.place r.rest))
    (lines_ended s P all n end (suc k) done at e)
    (either at (length s))

module _ (s : List ℕ) where
  -- a line that was read
  pub record LineRead (used at : ℕ) (t : Task) (n : ℕ) : Type 0 where
    pub fine : FineTask used t
    pub bytes : Plain s → Between s at (line_of t) n

  -- so it is where a line was read
  pub line_in_text : (used at : ℕ) (t : Task) (n : ℕ) → line_at used s at ≡ go t n → LineRead used at t n
  unfolding line_at
  line_in_text used at t n e =
      let r = row_back (in_text s) (times_in_text s) used at t n e in
      record { fine = r.fine; bytes = λ p. rw (line-parts used t r.fine) (r.bytes p) }

  -- lines that were read behind the rows that are done
  pub record LinesRead (k at : ℕ) (done all : List Task) (n : ℕ) : Type 0 where
    pub tail : List Task
    pub whole : all ≡ done ++ tail
    pub few : length tail ≤ k
    pub fine : FineTasks (length (all_times done)) tail
    pub bytes : Plain s → Between s at (lines_of tail) n
    pub ended : length s ≤ n

  -- one line more
  line_more : (k at m n : ℕ) (t : Task) (done all : List Task)
      → LineRead (length (all_times done)) at t m → LinesRead k m (done ++ (t ∷ [])) all n → LinesRead (suc k) at done all n
  unfolding FineTasks
  line_more k at m n t done all f l =
      let before : length (all_times (done ++ (t ∷ []))) ≡ length (all_times done) + length t.times = each_snoc_length _ done t in
      record {
        tail = t ∷ l.tail;
        whole = l.whole ∙ append_assoc done (t ∷ []) l.tail;
        few = omega (arith, l.few);
        fine = (f.fine, rw before at l.fine);
        bytes = λ p. rw (lines_more t l.tail) (both_between s at m n (line_of t) (lines_of l.tail) (f.bytes p) (l.bytes p));
        ended = l.ended;
      }

  -- lines one after another
  pub lines_back : (k : ℕ) (done : List Task) (at : ℕ) (all : List Task) (n : ℕ) → lines_at k done s at ≡ go all n
      → LinesRead k at done all n
  unfolding FineTasks
  lines_back k done at all n =
      lines_by s (λ k done at. LinesRead k at done all n) all n
      (λ k past. record {
        tail = [];
        whole = sym (append-nil all);
        few = omega arith;
        fine = tt;
        bytes = λ p. rw lines_none (none_between s n);
        ended = past;
      })
      (λ k done at t m e. line_more k at m n t done all (line_in_text _ at t m e)) k done at

-- a text whose lines were read
pub record Lines (s : List ℕ) (ts : List Task) : Type 0 where
  pub few : length ts ≤ 64
  pub fine : FineTasks 0 ts
  pub bytes : Plain s → s ≡ lines_of ts

-- so it is where they were read, from the first on
pub text_back : (s : List ℕ) (ts : List Task) (n : ℕ) → lines_at 64 [] s 0 ≡ go ts n → Lines s ts
text_back s ts n e =
    let r = lines_back s 64 [] 0 ts n e in
    let all : ts ≡ r.tail = r.whole in
    let fine : FineTasks 0 r.tail = unfold each in r.fine in
    let none : drop n s ≡ [] = drop_of_length-le s r.ended in
    record {
      few = rw all r.few;
      fine = rw all fine;
      bytes = λ p. (r.bytes p).stand ∙ rw (none, ← all) (append-nil (lines_of ts));
    }
