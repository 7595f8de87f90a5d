-- A core as one value: its rows, what is asked of each, and what the searches of a row answer. Assumes nothing.
use Prim.Native.Nat.{ℕ, ◌^◌, ◌≤◌, ◌<◌, min}
use native.Mathlib.Omega.{arith}
use mathlib.Core.Path.{◌≡◌, sym, ap, ◌∙◌}
use mathlib.Core.List.{List, ◌∷◌, map}
use lib.Dec.{eqb}
use lib.ListN.{length, length-map, get_or}
use lib.Seq.{take-append_seam}
use Rattle.lists.specs.Lists.{◌∈◌, Place, keep, pad_to}
use Rattle.lists.proofs.Places.{place_in_lem, place_below, place_some, place_get}
use Rattle.model.specs.Task.{Task}
use Rattle.model.specs.Bounds.{preemptive, cooperative, higher, blocking, window, row_bounds}
use Rattle.table.specs.declared.Row.{Row}
use Rattle.table.specs.Memory.{zero_row, row_of, used_rows, rows_of}
use Rattle.table.proofs.Stored.{stored-rows, rows-length}
use Rattle.bounds.specs.declared.Answer.{Answer}
use Rattle.bounds.specs.Loads.{loads, Summable, window_answer}
use Rattle.bounds.specs.Promises.{OwnRow}
use Rattle.bounds.proofs.Sides.{summable_keep}
use Rattle.bounds.proofs.Asked.{window-asked, window-answered}
use Rattle.bounds.proofs.AllJobs.{bounds-own}
use Rattle.cores.specs.declared.Asked.{Asked}
use Rattle.cores.specs.declared.Core.{Core}
use Rattle.cores.specs.Cores.{asked_of, asked_nothing, tasks_in, used_asked}
use Rattle.cores.specs.Promises.{asked_at, own_first, preemptive_loads, blocking_in, IsCore}
use Rattle.cores.proofs.AskedRows.{asked_is, own_first_is, preemptive_is, blocking_in_is}
use Rattle.analysis.specs.Analysis.{needed}
use Rattle.analysis.specs.Promises.{AtRow, Bounding, window_in, bounds_on}

-- the row that the code comes to, and its task
pub record Coming (rows : List Task) (i : ℕ) (r : Row) : Type 0 where
  pub task : Task
  pub place : Place rows i task
  pub row : r ≡ row_of task

module _ {c : Core} (k : IsCore c) where
  -- the room that is needed is counted
  pub parts_are : needed (tasks_in c) ≡ c.parts
  unfolding needed
  parts_are = sym (ap (λ (x : Core). x.parts) k.is)

  -- the rows that it uses are its tasks'
  rows_are : used_rows c.own ≡ rows_of (tasks_in c)
  rows_are = ap (λ (x : Core). used_rows x.own) k.is ∙ stored-rows (tasks_in c)

  module _ {items : List Row} (e : items ≡ used_rows c.own) where
    -- the code goes through as many rows
    pub as_many : length items ≡ length (tasks_in c)
    as_many = ap length (e ∙ rows_are) ∙ rows-length (tasks_in c)

    -- the row that it comes to
    pub coming : (i : ℕ) → i < length items → Coming (tasks_in c) i (get_or items i zero_row)
    coming i h =
        let w = place_some (tasks_in c) i (omega (arith, as_many)) in
        record {
          task = w.0;
          place = w.1;
          row = ap (λ (l : List Row). get_or l i zero_row) (e ∙ rows_are) ∙ place_get row_of zero_row (tasks_in c) i w.0 w.1;
        }

  -- what is asked of the rows that it uses
  pub asks_are : used_asked c ≡ map asked_of (tasks_in c)
  asks_are =
      let few : length (tasks_in c) ≤ 64 = k.good.few in
      let count : c.own.count ≡ length (tasks_in c) = ap (λ (x : Core). x.own.count) k.is in
      let padded : c.asked ≡ pad_to asked_nothing 64 (map asked_of (tasks_in c)) = ap (λ (x : Core). x.asked) k.is in
      let upto : min c.own.count 64 ≡ length (map asked_of (tasks_in c)) = omega (arith, count, few, length-map (tasks_in c) asked_of) in
      rw (padded, upto) (take-append_seam (map asked_of (tasks_in c)) _)

  -- what its searches take of row i
  abbrev pub at_row : (i : ℕ) (t : Task) → Place (tasks_in c) i t → AtRow (used_asked c) i
  at_row i t p = record { rows = tasks_in c; t = t; good = k.good; row = p; is = asks_are }

module _ {asked : List Asked} {own : ℕ} (a : AtRow asked own) where
  -- it is one of the rows
  pub own_in : a.t ∈ a.rows
  own_in = place_in_lem a.rows own a.t a.row

  -- its place, as the code asks for it
  pub own_below : (own < length asked) × (length asked ≤ 64)
  own_below =
      let all : length asked ≡ length a.rows = ap length a.is ∙ length-map a.rows asked_of in
      (omega (arith, place_below a.rows own a.t a.row), omega (arith, a.good.few))

  -- the rows of its sum
  pub own-loads : own_first asked own ≡ loads (a.t ∷ higher a.rows a.t)
  own-loads = rw a.is (own_first_is a.rows own a.t a.row)

  -- the preemptive rows
  pub preemptive-loads : preemptive_loads asked ≡ loads (keep preemptive a.rows)
  preemptive-loads = rw a.is (preemptive_is a.rows)

  -- its blocking
  pub own-blocking : blocking_in asked own ≡ blocking a.rows a.t
  own-blocking = rw a.is (blocking_in_is a.rows own a.t a.row)

  -- its kind
  pub own-kind : eqb (asked_at asked own).kind 1 ≡ cooperative a.t
  unfolding cooperative
  own-kind = rw a.is (ap (λ (x : Asked). eqb x.kind 1) (asked_is a.rows own a.t a.row))

  -- what its search for a window asks
  pub window_may : Summable (own_first asked own) × ((0 < length (own_first asked own)) × (blocking_in asked own ≤ 2 ^ 62))
  window_may = window-asked a.rows a.good a.t own_in _ _ own-loads own-blocking

  -- what it answers is its window
  pub window_in_lem : window_in asked own ≡ window a.rows a.t
  unfolding window_in window_answer
  window_in_lem = ap (λ (x : Answer). x.found) (window-answered a.rows a.good a.t own_in _ _ own-loads own-blocking)

  -- the preemptive rows can be summed too
  pub preemptive_may : Summable (preemptive_loads asked)
  preemptive_may = rw preemptive-loads (summable_keep a.rows a.good preemptive)

module _ {asked : List Asked} {own long : ℕ} {times : List ℕ} (b : Bounding asked own long times) where
  -- what the walk over its jobs asks
  abbrev pub bounds_may : OwnRow (own_first asked own) (preemptive_loads asked)
      (record { cooperative = eqb (asked_at asked own).kind 1; blocking = blocking_in asked own; window = long }) times
  bounds_may =
      let a = b.at in
      record {
        rows = a.rows;
        t = a.t;
        core = a.good;
        row = own_in a;
        loaded = own-loads a;
        preemptive_is = preemptive-loads a;
        kind = own-kind a;
        blocks = own-blocking a;
        windowed = b.windowed;
        timed = b.timed;
      }

  -- which leaves its bounds
  pub bounds_on_lem : bounds_on asked own long times ≡ row_bounds b.at.rows b.at.t
  unfolding bounds_on
  bounds_on_lem = bounds-own bounds_may
