-- Going through a core's rows for their bounds: those of the rows seen stand in front, and the highest late row is known.
use Prim.Native.Nat.{ℕ, ◌+◌, ◌-◌, ◌≤◌, ◌<◌}
use native.Mathlib.Numerals.{add-one}
use native.Mathlib.Omega.{arith}
use borrow.Author.Tests.{le-leb, lt-leb}
use mathlib.Core.Path.{◌≡◌, refl, sym, ap, ◌∙◌}
use mathlib.Core.List.{List, [], ◌∷◌, ◌++◌, append_assoc}
use lib.ListN.{length, get_or, take, drop, length-append}
use lib.Seq.{take_all, take-append_seam, drop-append_seam}
use Rattle.std.specs.Prelude.{Option, Some, None, Result}
use Rattle.lists.specs.Lists.{each, over, total}
use Rattle.lists.proofs.Places.{place_in_lem, place_get}
use Rattle.lists.proofs.Drops.{place_take, place_drop}
use Rattle.lists.proofs.Each.{each_snoc, each-length}
use Rattle.lists.proofs.EachPart.{each_within}
use Rattle.lists.proofs.Overs.{over_none, over-length, over-part, over_last}
use Rattle.lists.proofs.Totals.{total_same}
use Rattle.lists.proofs.Listed.{listed-length, listed_at}
use Rattle.model.specs.Task.{Task, parts}
use Rattle.model.specs.Rows.{GoodTask}
use Rattle.model.specs.Least.{value}
use Rattle.model.specs.Bounds.{window, bound, row_bounds, meets_deadline, highest}
use Rattle.table.specs.declared.Row.{Row}
use Rattle.table.specs.declared.Verdict.{Verdict}
use Rattle.table.specs.Memory.{all_times}
use Rattle.cores.specs.declared.Core.{Core}
use Rattle.cores.specs.Cores.{tasks_in, used_asked}
use Rattle.analysis.specs.Analysis.{core_bounds}
use Rattle.analysis.specs.Promises.{Bounding, ToBound, bounds_on, window_length, late, higher_row, top_of, said_late, BoundedBy}
use Rattle.analysis.proofs.Tops.{top_next, top_stays}
use Rattle.analysis.proofs.Cored.{Coming, at_row, bounds_on_lem}

-- a bound for each part
pub bounds_long : (rows : List Task) (t : Task) → length (row_bounds rows t) ≡ parts t
unfolding row_bounds
bounds_long rows t = listed-length _ (parts t)

-- of all rows
pub bounds-length : (rows ts : List Task) → length (each (row_bounds rows) ts) ≡ total parts ts
bounds-length rows ts = each-length (row_bounds rows) ts ∙ total_same _ _ ts (λ t m. bounds_long rows t)

-- numbers written behind those in front
behind-front : (new old more : List ℕ) (size : ℕ) {room put : List ℕ} {a : ℕ} → room ≡ over new old → a ≡ length new → put ≡ more
    → size ≡ length more → take a room ++ (put ++ drop size (drop a room)) ≡ over (new ++ more) old
behind-front new old more size is at own long = rw (is, at, own) (over-part new old more size long)

pub record BoundsPut (rows : List Task) (room₀ room : List ℕ) (top : Option Row) (rest : List ℕ) (a i : ℕ) : Type 0 where
  pub begins : a ≡ length (each (row_bounds rows) (take i rows))
  pub more : List ℕ
  pub times : rest ≡ all_times (drop i rows) ++ more
  pub put : room ≡ over (each (row_bounds rows) (take i rows)) room₀
  pub named : top ≡ top_of (highest (late rows) (take i rows))

module _ {c : Core} {ws room₀ : List ℕ} (b : ToBound c ws (length room₀)) where
  -- at first no row is seen
  pub none_put : BoundsPut (tasks_in c) room₀ room₀ None c.own.times 0 0
  unfolding highest top_of each
  none_put =
      record {
        begins = refl;
        more = _;
        times = ap (λ (x : Core). x.own.times) b.core.is;
        put = sym (over_none room₀);
        named = refl;
      }

  module _ {room rest : List ℕ} {top : Option Row} {a i : ℕ} (s : BoundsPut (tasks_in c) room₀ room top rest a i) where
    module _ {row : Row} (w : Coming (tasks_in c) i row) where
      -- the row comes behind those that are seen
      through : take (i + 1) (tasks_in c) ≡ take i (tasks_in c) ++ (w.task ∷ [])
      through = rw add-one (place_take (tasks_in c) i w.task w.place)

      -- and its bounds behind those that are put
      through_put : each (row_bounds (tasks_in c)) (take (i + 1) (tasks_in c))
          ≡ each (row_bounds (tasks_in c)) (take i (tasks_in c)) ++ row_bounds (tasks_in c) w.task
      through_put = rw through (each_snoc _ (take i (tasks_in c)) w.task)

      -- its times are the next
      ahead : rest ≡ w.task.times ++ (all_times (drop (i + 1) (tasks_in c)) ++ s.more)
      unfolding each
      ahead = s.times ∙ rw (place_drop (tasks_in c) i w.task w.place, add-one) (append_assoc w.task.times _ s.more)

      -- as many as the row says
      pub lent : take row.parts rest ≡ w.task.times
      lent = rw (w.row, ahead) (take-append_seam w.task.times _)

      pub lent_fit : row.parts ≤ length rest
      lent_fit = rw (w.row, ahead, length-append) (omega arith)

      -- it is good
      fine : GoodTask w.task
      fine = b.core.good.good w.task (place_in_lem (tasks_in c) i w.task w.place)

      -- and has a part
      pub some_part : 1 ≤ length w.task.times
      unfolding parts
      some_part = fine.count.least

      -- all of them are no more than the parts of all rows
      through_fit : length (each (row_bounds (tasks_in c)) (take (i + 1) (tasks_in c))) ≤ total parts (tasks_in c)
      through_fit = omega (arith, each_within (row_bounds (tasks_in c)) (tasks_in c) (i + 1), bounds-length (tasks_in c) (tasks_in c))

      -- there is room for its bounds
      pub bounds_fit : a + length w.task.times ≤ total parts (tasks_in c)
      unfolding parts
      bounds_fit =
          let more = row_bounds (tasks_in c) w.task in
          omega (
            arith,
            through_fit,
            bounds_long (tasks_in c) w.task,
            ap length through_put,
            length-append (each (row_bounds (tasks_in c)) (take i (tasks_in c))) more,
          )

      -- its window stands at its place
      pub window-here : window (tasks_in c) w.task ≡ Some (get_or ws i 0)
      unfolding window_length value
      window-here =
          let rows : List Task = tasks_in c in
          let v = b.windowed w.task (place_in_lem rows i w.task w.place) in
          let stands : get_or ws i 0 ≡ window_length rows w.task
          = ap (λ (l : List ℕ). get_or l i 0) b.lengths ∙ place_get (window_length rows) 0 rows i w.task w.place in
          v.1 ∙ ap Some (sym (stands ∙ ap value v.1))

      module _ {times : List ℕ} (own : times ≡ w.task.times) where
        -- what its bounds ask for
        abbrev pub bounding : Bounding (used_asked c) i (get_or ws i 0) times
        bounding = record { at = at_row b.core i w.task w.place; windowed = window-here; timed = own }

        module _ {put : List ℕ} (left : put ≡ bounds_on (used_asked c) i (get_or ws i 0) times) where
          -- the room with its bounds, as the code puts them
          abbrev pub room_next : List ℕ
          room_next = take a room ++ (put ++ drop (a + length times - a) (drop a room))

          -- they stand behind the others
          stands : room_next ≡ over (each (row_bounds (tasks_in c)) (take (i + 1) (tasks_in c))) room₀
          unfolding parts
          stands =
              rw through_put
              (behind-front _ room₀ (row_bounds (tasks_in c) w.task) (a + length times - a) s.put s.begins (left ∙ bounds_on_lem bounding)
              (omega (arith, ap length own, bounds_long (tasks_in c) w.task)))

          -- and the room stays as long
          pub room_long : length room_next ≡ length room₀
          room_long = ap length stands ∙ over-length _ room₀ (omega (arith, through_fit))

          -- the last of them
          last_bound_lem : get_or room_next (a + length times - 1) 0 ≡ bound (tasks_in c) w.task (parts w.task - 1)
          unfolding row_bounds parts
          last_bound_lem =
              let rows : List Task = tasks_in c in
              let seen : List ℕ = each (row_bounds rows) (take i rows) in
              let k : ℕ = length w.task.times - 1 in
              let place : a + length times - 1 ≡ length seen + k = omega (arith, ap length own, s.begins, some_part) in
              ap (λ (l : List ℕ). get_or l (a + length times - 1) 0) stands
              ∙ rw (place, through_put)
              (over_last seen room₀ (row_bounds rows w.task) k 0 (omega (arith, bounds_long rows w.task, some_part)))
              ∙ listed_at (bound rows w.task) (parts w.task) k 0 (omega (arith, some_part))

          module _ {top' : Option Row} {rest' : List ℕ} {a' : ℕ} (next : rest' ≡ drop row.parts rest) (end : a' ≡ a + length times) where
            -- one row more
            put_next : top' ≡ top_of (highest (late (tasks_in c)) (take (i + 1) (tasks_in c)))
                → BoundsPut (tasks_in c) room₀ room_next top' rest' a' (i + 1)
            unfolding parts
            put_next e =
                record {
                  begins =
                      end ∙ rw (through_put, length-append)
                      (omega (arith, s.begins, ap length own, bounds_long (tasks_in c) w.task));
                  more = s.more;
                  times = next ∙ rw (w.row, ahead) (drop-append_seam w.task.times _);
                  put = stands;
                  named = e;
                }

            -- a row that is late is looked at
            pub late_next : row.deadline < get_or room_next (a + length times - 1) 0 → top' ≡ higher_row top row
                → BoundsPut (tasks_in c) room₀ room_next top' rest' a' (i + 1)
            unfolding late meets_deadline
            late_next h e =
                let over-it : w.task.deadline < bound (tasks_in c) w.task (parts w.task - 1)
                = omega (arith, last_bound_lem, ap (λ (r : Row). r.deadline) w.row) in
                put_next
                (rw through (top_next (late (tasks_in c)) (take i (tasks_in c)) w.task s.named (rw (lt-leb _ _ over-it)) w.row e))

            -- one in time is passed over
            pub early_next : get_or room_next (a + length times - 1) 0 ≤ row.deadline → top' ≡ top
                → BoundsPut (tasks_in c) room₀ room_next top' rest' a' (i + 1)
            unfolding late meets_deadline
            early_next h e =
                let within : bound (tasks_in c) w.task (parts w.task - 1) ≤ w.task.deadline
                = omega (arith, last_bound_lem, ap (λ (r : Row). r.deadline) w.row) in
                put_next
                (e ∙ rw through (top_stays (late (tasks_in c)) (take i (tasks_in c)) w.task s.named (rw (le-leb _ _ within))))

    -- past the last row every bound stands, and the highest late row is said
    pub all_put : length (tasks_in c) ≤ i → {r : Result Unit Verdict} → r ≡ said_late (highest (late (tasks_in c)) (take i (tasks_in c)))
        → BoundedBy (tasks_in c) room₀ r room
    unfolding core_bounds
    all_put past e =
        let all : take i (tasks_in c) ≡ tasks_in c = take_all i (tasks_in c) past in
        record { left = rw all at s.put; says = rw all at e }
