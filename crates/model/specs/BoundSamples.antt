-- The samples of document 01 on the bounds that are marked P, with the values of document 02, §3, where it gives new ones, and B beside
-- them, as one statement.
use Rattle.std.specs.Prelude.{ℕ, ◌+◌, ◌-◌, ◌*◌, ◌≡◌, List, [], ◌∷◌}
use Rattle.lists.specs.Lists.{keep, total}
use Rattle.model.specs.Least.{Found}
use Rattle.std.specs.Prelude.{Some}
use Rattle.model.specs.Least.{least}
use Rattle.model.specs.Task.{Task, cost, part, parts_before}
use Rattle.model.specs.Bounds.{limit, preemptive, before, higher, blocking, window, jobs, start, finish, response, bound}
use Rattle.model.specs.Bounds.{core_verdict, passes, no_window, misses}

-- a row of core 0: id, kind, priority, period, deadline, times
abbrev pub row : ℕ → ℕ → ℕ → ℕ → ℕ → List ℕ → Task
row i k p t d cs = record { id = i; core = 0; kind = k; priority = p; period = t; deadline = d; times = cs }

-- Set A, with task 3's deadline at d
abbrev pub a1 : Task
a1 = row 1 0 3 5 5 (1 ∷ [])

abbrev pub a2 : Task
a2 = row 2 1 2 10 10 (1 ∷ 2 ∷ [])

abbrev pub a3 : ℕ → Task
a3 d = row 3 1 1 20 d (2 ∷ 3 ∷ [])

abbrev pub set_a : ℕ → List Task
set_a d = a1 ∷ a2 ∷ a3 d ∷ []

-- two preemptive rows, T 70 C 26 above T 100 C 62
abbrev pub b1 : Task
b1 = row 1 0 2 70 70 (26 ∷ [])

abbrev pub b2 : Task
b2 = row 2 0 1 100 100 (62 ∷ [])

abbrev pub pair : List Task
pair = b1 ∷ b2 ∷ []

-- one row whose cost and deadline are the limit, with period t
abbrev pub most : ℕ → Task
most t = row 1 0 1 t 16777215 (16777215 ∷ [])

abbrev pub one : ℕ → List Task
one t = most t ∷ []

-- two cooperative rows, T 1 C 1 above T 5 C 1
abbrev pub d1 : Task
d1 = row 1 1 2 1 1 (1 ∷ [])

abbrev pub d2 : Task
d2 = row 2 1 1 5 5 (1 ∷ [])

abbrev pub full : List Task
full = d1 ∷ d2 ∷ []

-- the paper's equations 11 and 12 as printed, with up for down
module _ (rows : List Task) (t : Task) (r : ℕ) where
  unfoldable pub printed_start : ℕ → Found
  printed_start j =
      least
      (λ s. blocking rows t + total (λ u. (before u s + 1) * cost u) (higher rows t) + j * cost t + parts_before t r)
      0
      limit

  unfoldable pub printed_end : ℕ → Found
  printed_end s =
      least
      (λ f. s + part t r + total (λ u. (before u f - (before u s + 1)) * cost u) (keep preemptive rows))
      (s + part t r)
      limit

pub record BoundSamples : Type 0 where
  -- nothing blocks a preemptive row, nor a row with none below it
  pub blocked_a : (blocking (set_a 20) a1 ≡ 0) × (blocking (set_a 20) a2 ≡ 2) × (blocking (set_a 20) (a3 20) ≡ 0)
  pub windows_a : (window (set_a 20) a1 ≡ Some 1) × (window (set_a 20) a2 ≡ Some 7) × (window (set_a 20) (a3 20) ≡ Some 10)
  pub bounds_a1 : bound (set_a 20) a1 0 ≡ 1
  pub bounds_a2 : (bound (set_a 20) a2 0 ≡ 4) × (bound (set_a 20) a2 1 ≡ 7)
  pub bounds_a3 : (bound (set_a 20) (a3 20) 0 ≡ 7) × (bound (set_a 20) (a3 20) 1 ≡ 10)
  pub part_a : (start (set_a 20) (a3 20) 0 0 ≡ Some 4) × (finish (set_a 20) (a3 20) 0 0 ≡ Some 7)
  pub printed_a : (printed_start (set_a 20) (a3 20) 0 0 ≡ Some 9) × (printed_end (set_a 20) (a3 20) 0 9 ≡ Some 11)
  pub good_a : (core_verdict (set_a 20) ≡ passes) × (core_verdict (set_a 10) ≡ passes)
  pub late_a : core_verdict (set_a 9) ≡ misses (a3 9)
  pub window_b : (window pair b2 ≡ Some 694) × (jobs pair b2 ≡ 7)
  pub first_b : (response pair b2 0 0 ≡ 114) × (response pair b2 0 1 ≡ 102) × (response pair b2 0 2 ≡ 116)
  pub last_b : (response pair b2 0 3 ≡ 104) × (response pair b2 0 4 ≡ 118) × (response pair b2 0 5 ≡ 106) × (response pair b2 0 6 ≡ 94)
  pub bound_b : bound pair b2 0 ≡ 118
  pub limit_good : core_verdict (one 16777215) ≡ passes
  pub limit_over : core_verdict (one 16777214) ≡ no_window (most 16777214)
  -- a lower part of one tick blocks nobody, so the upper row has a window
  pub one_tick : (blocking full d1 ≡ 0) × (window full d1 ≡ Some 1)
  pub full_lower : core_verdict full ≡ no_window d2
