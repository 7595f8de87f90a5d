-- Document 01's round trips and what writing does not look at, as statements.
use Rattle.std.specs.Prelude.{ℕ, ◌≤◌, ◌≡◌, List, length, take}
use Rattle.lists.specs.Lists.{pad_to, over}
use Rattle.numbers.specs.Numbers.{Bytes}
use Rattle.table.specs.declared.Table.{Table}
use Rattle.table.specs.declared.Verdict.TheVariants.{Good}
use Rattle.table.specs.Memory.{zero_row, used_rows, used_times}
use Rattle.files.specs.declared.Loaded.{Loaded}
use Rattle.table.specs.declared.Written.{Written}
use Rattle.files.specs.Reading.{read_answer}
use Rattle.files.specs.Writing.{write_answer, bytes_after, Wrote}

-- a table's own rows and times, and the zeros behind them
abbrev pub cleared : Table → Table
cleared t = record { count = t.count; rows = pad_to zero_row 64 (used_rows t); times = pad_to 0 1024 (used_times t) }

-- every table in memory has 64 rows and 1,024 times, by its type
pub record InMemory (t : Table) : Type 0 where
  pub rows : length t.rows ≡ 64
  pub times : length t.times ≡ 1024

-- reading a written table gives its rows and times back
abbrev pub WrittenIsRead : Type 0
WrittenIsRead = (t : Table) → InMemory t → (out : List ℕ) (r : Written) (out' : List ℕ) → Wrote t out r out' → r.verdict ≡ Good
    → read_answer (take r.count out') ≡ record { verdict = Good; table = cleared t }

-- writing a read file gives its bytes, all of them and no more
abbrev pub ReadIsWritten : Type 0
ReadIsWritten = (s : List ℕ) → Bytes s → (l : Loaded) → l ≡ read_answer s → l.verdict ≡ Good
    → (out : List ℕ) (r : Written) (out' : List ℕ) → Wrote l.table out r out' → length s ≤ length out
    → (r ≡ record { verdict = Good; count = length s }) × (out' ≡ over s out)

-- a good file has at most 5,121 bytes
abbrev pub GoodFileIsShort : Type 0
GoodFileIsShort = (s : List ℕ) → Bytes s → (read_answer s).verdict ≡ Good → length s ≤ 5121

-- two tables that use the same rows and times
pub record Alike (t u : Table) : Type 0 where
  pub count : t.count ≡ u.count
  pub rows : used_rows t ≡ used_rows u
  pub times : used_times t ≡ used_times u

-- what stands in the unused rows and times has no say in writing
abbrev pub UnusedHasNoSay : Type 0
UnusedHasNoSay = (t u : Table) → Alike t u → (out : List ℕ)
    → (write_answer t (length out) ≡ write_answer u (length out)) × (bytes_after t out ≡ bytes_after u out)
