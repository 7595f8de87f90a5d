-- The rows of a sum as the code has them: the period and cost of each; and what a search over them answers.
use Rattle.std.specs.Prelude.{ℕ, ◌+◌, ◌*◌, ◌≤◌, List, [], ◌∷◌, map, length, unwrap_or}
use Rattle.std.specs.List.{All}
use Rattle.model.specs.Task.{Task, cost}
use Rattle.model.specs.Bounds.{up, window, demand}
use Rattle.model.specs.Least.{least, rounds}
use Rattle.bounds.specs.declared.Load.{Load}
use Rattle.bounds.specs.declared.Answer.{Answer}

-- a row's two numbers
abbrev pub load : Task → Load
load u = record { period = u.period; cost = cost u }

-- those of rows, one after another
abbrev pub loads : List Task → List Load
loads us = map load us

-- a row with a period and a cost in range
abbrev pub InRange : Load → Type 0
InRange l = (1 ≤ l.period) × (l.cost ≤ 1073741760)

-- at most 64 of them: the sums of their work fit
pub record Summable (rows : List Load) : Type 0 where
  pub few : length rows ≤ 64
  pub ranged : All InRange rows

-- the work that the rows can ask for before tick x: up(x/T) times C for each
unfoldable pub work_at : List Load → ℕ → ℕ
work_at [] x = 0
work_at (l ∷ more) x = up x l.period * l.cost + work_at more x

-- the numbers of the row that comes first
abbrev pub first_period : List Load → ℕ
first_period [] = 0
first_period (l ∷ more) = l.period

abbrev pub first_cost : List Load → ℕ
first_cost [] = 0
first_cost (l ∷ more) = l.cost

-- the right side of every search: a base, and the work of the rows
abbrev pub side : List Load → ℕ → ℕ → ℕ
side rows base x = base + work_at rows x

-- what a search answers: the least solution from `from` up to the limit, and how often the right side was worked out
unfoldable pub searched : List Load → ℕ → ℕ → Answer
searched rows base from =
    record { found = least (side rows base) from 16777215; rounds = rounds (side rows base) 16777215 16777216 from }

-- the solution as a number, 0 for none
abbrev pub solution : List Load → ℕ → ℕ → ℕ
solution rows base from = unwrap_or (searched rows base from).found 0

-- what is answered for a row's window: its length, and how often the right side was worked out from the row's C on
unfoldable pub window_answer : List Task → Task → Answer
window_answer rows t = record { found = window rows t; rounds = rounds (demand rows t) 16777215 16777216 (cost t) }
