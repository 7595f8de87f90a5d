-- Document 01, "The table": the fields of a row in file order, and what each may be.
use Rattle.std.specs.Prelude.{ℕ, ◌-◌, ◌||◌, List, [], ◌∷◌, get_or, ltb}
use Rattle.lists.specs.Lists.{pick}
use Rattle.table.specs.declared.Row.{Row}
use Rattle.table.specs.declared.Wanted.{Wanted}
use Rattle.table.specs.declared.Verdict.{Verdict}
use Rattle.table.specs.declared.Verdict.TheVariants.{Good, OutOfRange, TooManyTimes}
use Rattle.table.specs.Verdicts.{◌or_else◌}

-- what a number may be: from low to high, else code 3; and no more than are left, else code 7
abbrev pub want : ℕ → ℕ → ℕ → Wanted
want low high left = record { low = low; high = high; left = left }

-- a field that has a range and no more
abbrev pub field : ℕ → ℕ → Wanted
field low high = want low high high

-- a part count, with `used` of the 1,024 times taken before it
abbrev pub part_count : ℕ → Wanted
part_count used = want 1 64 (1024 - used)

-- the fields before a row's times: id, core, type, priority, period, deadline, part count
unfoldable pub head : ℕ → List Wanted
head used =
    field 1 65535
    ∷ field 0 3
    ∷ field 0 1
    ∷ field 1 255
    ∷ field 1 16777215
    ∷ field 1 16777215
    ∷ part_count used
    ∷ []

-- one worst time
abbrev pub time : Wanted
time = field 1 16777215

-- the row of seven fields, and the seven fields of a row
abbrev pub row_from : List ℕ → Row
row_from fields =
    record {
      id = get_or fields 0 0;
      core = get_or fields 1 0;
      kind = get_or fields 2 0;
      priority = get_or fields 3 0;
      period = get_or fields 4 0;
      deadline = get_or fields 5 0;
      parts = get_or fields 6 0;
    }

abbrev pub fields_of : Row → List ℕ
fields_of r = r.id ∷ r.core ∷ r.kind ∷ r.priority ∷ r.period ∷ r.deadline ∷ r.parts ∷ []

-- a number's own fault: 3, then 7; each carries the number given
unfoldable pub judge : Wanted → ℕ → ℕ → Verdict
judge w number n =
    pick (ltb n w.low || ltb w.high n) (OutOfRange number) (pick (ltb w.left n) (TooManyTimes number) Good)

-- the first fault of numbers one after another
unfoldable pub fault_in : List Wanted → ℕ → List ℕ → Verdict
fault_in [] number ns = Good
fault_in (w ∷ ws) number [] = Good
fault_in (w ∷ ws) number (n ∷ ns) = judge w number n or_else fault_in ws number ns
