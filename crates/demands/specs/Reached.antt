-- How far reading a file gets, said without the reader: the numbers before a place all stand there and are what they may be.
--
-- The words on a definition end with what it says of Set A (document 01), whose 27 bytes are one number each:
--   offset 0   3                row count
--   offset 1   1 0 0 3 5 5 1    fields of row 0    offset 8    1      its time
--   offset 9   2 0 1 2 10 10 2  fields of row 1    offset 16   1 2    its times
--   offset 18  3 0 1 1 20 20 2  fields of row 2    offset 25   2 3    its times, and the file ends at 27
-- s is that file, and a1, a2, a3 are its three tasks.
use Rattle.std.specs.Prelude.{ℕ, suc, ◌≤◌, ◌<◌, ◌≡◌, ◌⊎◌, List, [], ◌∷◌, ◌++◌, length, get_or, replicate}
use Rattle.lists.specs.Lists.{Place}
use Rattle.numbers.specs.Numbers.{number_at}
use Rattle.numbers.specs.Numbers as N
use Rattle.model.specs.Task.{Task}
use Rattle.model.specs.Rows.{Within}
use Rattle.table.specs.declared.Wanted.{Wanted}
use Rattle.table.specs.Fields.{field, head, time, row_from}
use Rattle.table.specs.Memory.{task_of, all_times}

-- so many bytes stand in front and have their high bit set: a number goes on behind them
abbrev pub GoOn : ℕ → List ℕ → Type 0
GoOn k bytes = (i : ℕ) → i < k → (i < length bytes) × (128 ≤ get_or bytes i 0)

-- the bytes end before a number is complete: so it is for 80, and for no byte at all
pub record CutOff (bytes : List ℕ) : Type 0 where
  pub few : length bytes < 4
  pub go_on : GoOn (length bytes) bytes

-- a number's last byte is zero and not its only one: so it is for 80 00, with k = 1
pub record ZeroLast (bytes : List ℕ) : Type 0 where
  pub k : ℕ
  pub others : 0 < k
  pub most : k < 4
  pub go_on : GoOn k bytes
  pub zero : Place bytes k 0

-- it is longer than four bytes, or its last byte is zero and not its only one
abbrev pub IllFormed : List ℕ → Type 0
IllFormed bytes = GoOn 4 bytes ⊎ ZeroLast bytes

-- a number is what it may be: in its range, and no more than are left
pub record MayBe (w : Wanted) (x : ℕ) : Type 0 where
  pub range : Within w.low w.high x
  pub left : x ≤ w.left

-- such a number stands at a place, and behind it the next begins
-- Set A: Stands s (field 0 64) 0 3 1, the row count 3 at offset 0, and offset 1 is next
pub record Stands (s : List ℕ) (w : Wanted) (at v next : ℕ) : Type 0 where
  pub number : number_at s at ≡ N.Got v next
  pub may : MayBe w v

-- of the numbers wanted from one place on, some stand there, one behind the other; the others are wanted at the next place
-- `S w at v next` says that a number v that may be there stands at a place, and where the next begins
-- Set A: Along (Stands s) (head 0) 1 (1 ∷ 0 ∷ 0 ∷ 3 ∷ 5 ∷ 5 ∷ 1 ∷ []) [] 8, all seven fields of row 0: `more` seven times, then `here`;
-- Along (Stands s) (head 1) 9 (2 ∷ 0 ∷ 1 ∷ 2 ∷ 10 ∷ []) (field 1 16777215 ∷ part_count 1 ∷ []) 14, five fields of row 1:
-- its deadline is next
pub data Along (S : Wanted → ℕ → ℕ → ℕ → Type 0) : List Wanted → ℕ → List ℕ → List Wanted → ℕ → Type 0 where
  here : {ws : List Wanted} {at : ℕ} → Along S ws at [] ws at
  more : {w : Wanted} {ws others : List Wanted} {at v next n : ℕ} {vs : List ℕ}
      → S w at v next → Along S ws next vs others n → Along S (w ∷ ws) at (v ∷ vs) others n

-- the fields wanted of the next row: head 0 at first, head 1 behind a1, and head 3 behind a1 and a2, which take three times
abbrev pub its_fields : List Task → List Wanted
its_fields done = head (length (all_times done))

-- and its times, once these are read: one for row 0, two for row 1 and for row 2
abbrev pub its_times : List ℕ → List Wanted
its_times fields = replicate (row_from fields).parts time

-- the row count and these rows stand in front of a place, and k rows more are wanted there
-- Set A: Rows s 3 [] 1 by `none`, then by `more` Rows s 2 (a1 ∷ []) 9, Rows s 1 (a1 ∷ a2 ∷ []) 18 and Rows s 0 (a1 ∷ a2 ∷ a3 ∷ []) 27:
-- no row more is wanted, and 27 is the file's length, so the file is these rows (`Whole`)
pub data Rows (s : List ℕ) : ℕ → List Task → ℕ → Type 0 where
  none : {count at : ℕ} → Stands s (field 0 64) 0 count at → Rows s count [] at
  more : {k at m n : ℕ} {done : List Task} {fields times : List ℕ}
      → Rows s (suc k) done at → Along (Stands s) (its_fields done) at fields [] m → Along (Stands s) (its_times fields) m times [] n
      → Rows s k (done ++ (task_of (row_from fields) times ∷ [])) n

-- after the numbers before it, all fine, this number is wanted at a place
-- Set A: Wants s 14 (field 1 16777215) by `of_fields`, the deadline of row 1: were the byte there 0, it would be code 3 with number 14;
-- Wants s 26 time by `of_times`, the last time: were the file cut off there, it would still be wanted at 26, and code 1 with number 26
pub data Wants (s : List ℕ) : ℕ → Wanted → Type 0 where
  count : Wants s 0 (field 0 64)
  of_fields : {k at m : ℕ} {done : List Task} {fields : List ℕ} {w : Wanted} {ws : List Wanted}
      → Rows s (suc k) done at → Along (Stands s) (its_fields done) at fields (w ∷ ws) m → Wants s m w
  of_times : {k at m n : ℕ} {done : List Task} {fields times : List ℕ} {w : Wanted} {ws : List Wanted}
      → Rows s (suc k) done at → Along (Stands s) (its_fields done) at fields [] m → Along (Stands s) (its_times fields) m times (w ∷ ws) n
      → Wants s n w
