-- Inner: how the definitions stand behind the functions on the way: what each writes.
use Rattle.std.specs.Prelude.{ℕ, List, ◌++◌, map}
use Rattle.text.specs.Text.{decimal, joined}
use Rattle.table.specs.declared.Row.{Row}
use Rattle.table.specs.Fields.{fields_of}
use Rattle.fields.specs.TextFields.{comma}
use Rattle.comma.specs.Writing.{line_end}

-- the line of a row and its times
unfoldable pub line_text : Row → List ℕ → List ℕ
line_text r times = joined comma line_end (map decimal (fields_of r ++ times))
