-- Demand 3: no allowed run of the one-core machine is later than the bounds, deadline kept or not.
use Rattle.std.specs.Prelude.{ℕ, ◌+◌, ◌≤◌, ◌<◌, ◌≡◌, List}
use Rattle.lists.specs.Lists.{◌∈◌}
use Rattle.std.specs.Prelude.{Some}
use Rattle.model.specs.Task.{Task, parts}
use Rattle.model.specs.Rows.{GoodCore}
use Rattle.model.specs.Bounds.{window, bound}
use Rattle.model.specs.Machine.{Run, stand_at, ReleasedIn, Allowed, Ended}

-- once the release of a job lies as many ticks back as the bound of a part, that part of that job has ended
unfoldable pub NeverLater : List Task → Run → Task → Type 0
NeverLater rows run row =
    (q r t u : ℕ) → ReleasedIn run row q t → r < parts row → t + bound rows row r ≤ u → Ended (stand_at rows run u row) q r

-- so it is for each row, of either kind, of a core of a good table whose window is within the limit, in every allowed run
unfoldable pub NoRunIsLater : Type 0
NoRunIsLater =
    (rows : List Task) → GoodCore rows → (row : Task) → row ∈ rows → (L : ℕ) → window rows row ≡ Some L
    → (run : Run) → Allowed rows run → NeverLater rows run row
