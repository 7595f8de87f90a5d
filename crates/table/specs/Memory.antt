-- Document 01, "The table": how rows lie in memory.
use Rattle.std.specs.Prelude.{ℕ, List, [], ◌∷◌, map, length, take, drop}
use Rattle.lists.specs.Lists.{pad_to, total, each}
use Rattle.model.specs.Task.{Task}
use Rattle.table.specs.declared.Row.{Row}
use Rattle.table.specs.declared.Table.{Table}

-- a task's row, and the task of a row and its times
abbrev pub row_of : Task → Row
row_of t =
    record {
      id = t.id;
      core = t.core;
      kind = t.kind;
      priority = t.priority;
      period = t.period;
      deadline = t.deadline;
      parts = length t.times;
    }

abbrev pub task_of : Row → List ℕ → Task
task_of r times =
    record {
      id = r.id;
      core = r.core;
      kind = r.kind;
      priority = r.priority;
      period = r.period;
      deadline = r.deadline;
      times = times;
    }

-- the rows of tasks, in order
abbrev pub rows_of : List Task → List Row
rows_of ts = map row_of ts

-- the times of all rows stand one after another in row order
abbrev pub all_times : List Task → List ℕ
all_times ts = each (λ t. t.times) ts

abbrev pub zero_row : Row
zero_row = record { id = 0; core = 0; kind = 0; priority = 0; period = 0; deadline = 0; parts = 0 }

-- tasks in memory: unused rows and the rest of the 1,024 times are all zero
abbrev pub stored : List Task → Table
stored ts = record { count = length ts; rows = pad_to zero_row 64 (rows_of ts); times = pad_to 0 1024 (all_times ts) }

-- the rows that a table uses, and the times that these take
abbrev pub used_rows : Table → List Row
used_rows t = take t.count t.rows

abbrev pub parts_in : List Row → ℕ
parts_in rows = total (λ r. r.parts) rows

abbrev pub used_times : Table → List ℕ
used_times t = take (parts_in (used_rows t)) t.times

-- rows as tasks: each takes as many of the times as its part count says
unfoldable pub tasks_from : List Row → List ℕ → List Task
tasks_from [] times = []
tasks_from (r ∷ rs) times = task_of r (take r.parts times) ∷ tasks_from rs (drop r.parts times)

unfoldable pub tasks_of : Table → List Task
tasks_of t = tasks_from (used_rows t) t.times
