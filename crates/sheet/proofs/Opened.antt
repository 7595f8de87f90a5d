-- Names for definitions that samples compute: an answer that says `unfolding bytes_read` opens reading. Nothing is proved here.
use Prim.Native.Nat.{ℕ}
use Rattle.lists.specs.Lists.{any, keep, each, over, total, sum, largest, listed}
use Rattle.numbers.specs.Numbers.{groups, number_at}
use Rattle.model.specs.Task.{parts, part, parts_before, cost}
use Rattle.model.specs.Least.{least, scan, found, value, max_below}
use Rattle.model.specs.Bounds as bounds
use Rattle.table.specs.Verdicts.{good, ◌or_else◌}
use Rattle.table.specs.Fields.{head, judge}
use Rattle.table.specs.Clash as clash
use Rattle.fields.specs.Stepping as stepping
use Rattle.files.specs.Reading as reading
use Rattle.analysis.specs.Analysis as analysis
use Rattle.text.specs.Text.{decimal_in, decimal, joined}
use Rattle.sheet.specs.Sheet as sheet

-- numbers one after another
numbers : ℕ
unfolding groups number_at good judge stepping.◌then◌ stepping.unless stepping.asked stepping.field_at stepping.fields_at
numbers = 0

-- the rules over the table
rules : ℕ
unfolding any ◌or_else◌ clash.coop_above clash.breaks clash.clash_after clash.broken clash.clash_of
rules = 0

-- reading a file
unfoldable pub bytes_read : ℕ
unfolding numbers rules head each stepping.row_by reading.row_at reading.rows_at reading.end_at reading.decode
bytes_read = 0

-- sums over rows
sums : ℕ
unfolding keep total sum largest parts part parts_before cost bounds.preemptive bounds.cooperative bounds.higher bounds.lower
sums = 0

-- the right sides of the equations
unfoldable pub sides : ℕ
unfolding sums bounds.limit bounds.blocking bounds.demand
sides = 0

-- their least solutions
searches : ℕ
unfolding sides least scan found value max_below bounds.up bounds.down bounds.before bounds.through bounds.window bounds.jobs
searches = 0

-- bounds
unfoldable pub bounds-found : ℕ
unfolding searches bounds.preemptive_end bounds.start bounds.end_from bounds.finish bounds.response bounds.bound bounds.row_bounds listed
bounds-found = 0

-- the verdict of a core, where its windows and bounds are known
unfoldable pub core_judged : ℕ
unfolding found parts bounds.meets_deadline bounds.above bounds.highest bounds.judged_by bounds.core_verdict
core_judged = 0

-- the rows of a core, and the room that they need
unfoldable pub rows_picked : ℕ
unfolding keep total parts bounds.on_core analysis.needed
rows_picked = 0

-- what is said of a core, once its verdict is known
unfoldable pub core_said_lem : ℕ
unfolding rows_picked analysis.named analysis.room_said analysis.core_said
core_said_lem = 0

-- the bounds of a core in order, once each is known
bounds-listed : ℕ
unfolding each over analysis.core_bounds bounds.row_bounds listed
bounds-listed = 0

-- the answer and the room
unfoldable pub answer_given : ℕ
unfolding core_said_lem bounds-listed analysis.file_said analysis.file_rows analysis.writes analysis.answered analysis.room_after
answer_given = 0

-- lines of text
unfoldable pub lines_made : ℕ
unfolding decimal_in decimal joined each listed sheet.header sheet.bound_line sheet.core_line sheet.file_line
lines_made = 0

-- the text of a core, once its verdict and bounds are known
unfoldable pub text_made : ℕ
unfolding core_said_lem lines_made sheet.row_lines sheet.core_text_of sheet.core_text sheet.good_text
text_made = 0
