-- Equations 4 to 12 as document 01 sets them, 10 as document 02, §3, does, and what a bound is, said without the searches. Jobs are
-- numbered by j from 0: k − 1.
use Rattle.std.specs.Prelude.{ℕ, suc, ◌+◌, ◌-◌, ◌*◌, ◌≤◌, ◌<◌, ◌≡◌, ◌↔◌, List, ◌∷◌}
use Rattle.lists.specs.Lists.{◌∈◌, keep, total}
use Rattle.std.specs.Prelude.{Some, None}
use Rattle.model.specs.Task.{Task, part, parts, parts_before, cost}
use Rattle.model.specs.Least.{IsLeast, NoLeast}
use Rattle.model.specs.Bounds.{limit, preemptive, up, down, higher, blocking, window, bound}

module _ (rows : List Task) (t : Task) where
  -- u is a lower row
  abbrev pub IsLower : Task → Type 0
  IsLower u = (u ∈ rows) × (u.priority < t.priority)

  -- p is the longest lower part
  pub record LongestLower (p : ℕ) : Type 0 where
    pub each : (u : Task) → IsLower u → (r : ℕ) → r < parts u → part u r ≤ p
    pub some : (u : Task) × IsLower u × (r : ℕ) × (r < parts u) × (part u r ≡ p)

  -- b is B (10, as 02 sets it)
  pub record IsBlocking (b : ℕ) : Type 0 where
    -- 0 for a preemptive row
    pub preemptive : t.kind ≡ 0 → b ≡ 0
    -- for a cooperative row the longest lower part less one tick
    pub cooperative : t.kind ≡ 1 → (p : ℕ) → LongestLower p → b ≡ p - 1
    -- and 0 if there is no lower row
    pub alone : ((u : Task) → IsLower u → ⊥) → b ≡ 0

  -- B plus, over this row and all higher rows, up(L/T) times C (4, 9)
  abbrev pub window_side : ℕ → ℕ
  window_side x = blocking rows t + total (λ u. up x u.period * cost u) (t ∷ higher rows t)

  -- the window is the least positive length equal to that
  abbrev pub IsWindow : ℕ → Type 0
  IsWindow L = IsLeast window_side 1 limit L

  -- s, plus the part's time, plus, over the core's preemptive rows, (up(f/T) − down(s/T) − 1) times C (12)
  abbrev pub end_from_side : ℕ → ℕ → ℕ → ℕ
  end_from_side r s f =
      s + part t r + total (λ u. (up f u.period - (down s u.period + 1)) * cost u) (keep preemptive rows)

  module _ (r j : ℕ) where
    -- the sum over higher rows of up(f/T) times C, plus the jobs before, plus the own times up to and with r (6)
    abbrev pub end_side : ℕ → ℕ
    end_side f = total (λ u. up f u.period * cost u) (higher rows t) + j * cost t + parts_before t (suc r)

    -- B plus, over higher rows, (down(s/T) + 1) times C, plus the jobs before, plus the own times before r (11)
    abbrev pub start_side : ℕ → ℕ
    start_side s = blocking rows t + total (λ u. (down s u.period + 1) * cost u) (higher rows t) + j * cost t + parts_before t r

    -- part r of job j ends at f
    pub record EndsAt (f : ℕ) : Type 0 where
      -- a preemptive row: the least positive solution
      pub preemptive : t.kind ≡ 0 → IsLeast end_side 1 limit f
      -- a cooperative row: its start is the least solution from 0 up, its end the least from there plus the part's time up
      pub cooperative : t.kind ≡ 1 → (s : ℕ) × IsLeast start_side 0 limit s × IsLeast (end_from_side r s) (s + part t r) limit f
      -- not before its release
      pub released : j * t.period ≤ f

  -- b is the bound of part r: the largest f − (k − 1) times T over the jobs, which are up(L/T) (5, 7, 8)
  pub record IsBound (L r b : ℕ) : Type 0 where
    pub each : (j : ℕ) → j < up L t.period → (f : ℕ) × EndsAt r j f × (f - j * t.period ≤ b)
    pub some : (j : ℕ) × (j < up L t.period) × (f : ℕ) × EndsAt r j f × (b ≡ f - j * t.period)

  -- the model's B, window and bounds, which the codes 11 and 12 speak of, are these
  pub record Equations : Type 0 where
    pub blocks : (b : ℕ) → (blocking rows t ≡ b) ↔ IsBlocking b
    pub found : (L : ℕ) → (window rows t ≡ Some L) ↔ IsWindow L
    pub none : (window rows t ≡ None) ↔ NoLeast window_side 1 limit
    pub bounds : (L : ℕ) → IsWindow L → (r : ℕ) → r < parts t → (b : ℕ) → (bound rows t r ≡ b) ↔ IsBound L r b

  -- the row has a window up to the limit, and the bound of its last part is within its deadline
  pub record Meets : Type 0 where
    pub L : ℕ
    pub b : ℕ
    pub window : IsWindow L
    pub bound : IsBound L (parts t - 1) b
    pub within : b ≤ t.deadline
