-- `cores::core_of` meets its contract. The invariant: the core's rows so far lie in memory, with what is asked of each, and those left
-- follow. Assumes nothing.
use Rattle.std.proofs.Common.{◌≡◌, refl, sym, ap, ◌∙◌, ℕ, suc, ◌+◌, ◌-◌, ◌*◌, ◌≤◌, ◌<◌, List, map, [], ◌∷◌, ◌++◌}
use Rattle.std.proofs.Common.{length, get_or, take, drop, set, arith, length-append, append_assoc, append-nil}
use Rattle.std.proofs.Math.Seq.{sets, sets-eq, drop-drop, append_snoc}
use mathlib.Core.List.{map-append}
use lib.ListN.{length-map}
use Rattle.lists.specs.Lists.{each, sum, pad_to}
use Rattle.lists.proofs.Pads.{set-pad}
use Rattle.lists.proofs.Sums.{sum-most}
use Rattle.model.specs.Task.{Task, parts, part}
use Rattle.model.specs.Rows.{GoodTask}
use Rattle.model.specs.Bounds.{on_core}
use Rattle.model.proofs.Cores.{core_none, core_first, core_other}
use Rattle.table.specs.declared.Row.{Row}
use Rattle.table.specs.declared.Table.{Table}
use Rattle.table.specs.Memory.{zero_row, task_of, all_times, tasks_of}
use Rattle.table.proofs.Stored.{times-count}
use Rattle.table.proofs.GoodTasks.{times_fit, tasks-good}
use Rattle.table.proofs.Walk.{Next, next, none_left, all_left}
use Rattle.table.proofs.Laid.{Laid, laid_stored, laid_sets, times_long}
use Rattle.cores.specs.declared.Asked.{Asked}
use Rattle.cores.specs.Cores.{asked_of, asked_nothing, core_of}
use Rattle.cores.proofs.GoodCores.{core_of-good}
use Rattle.cores.proofs.core_of.Invariants.{Keeping}
use Rattle.cores.proofs.core_of.Goals.{In-loop-row, then-row-core, else-row-core}
use Rattle.cores.proofs.core_of.Goals as goal

-- a good task's times add up to a number that fits
times-add : (u : Task) → GoodTask u → sum u.times ≤ 4294967295
unfolding parts part
times-add u g =
    let all : sum u.times ≤ length u.times * 16777215 = sum-most u.times 16777215 (λ r h. (g.time r h).most) in
    omega (arith, g.count.most)

module _ {t : Table} {core : ℕ} {own : Table} {kept : ℕ} {asked : List Asked} {rows : List Row} {rest : List ℕ} {i : ℕ}
    (k : Keeping t core own kept asked rows rest i) where
  -- past the last row the core is whole
  ends : length rows ≤ i → record { own = own; parts = kept; asked = asked } ≡ core_of (on_core core (tasks_of t))
  ends h =
      let mine = k.all ∙ rw (none_left k.tasks k.left h, core_none core) (append-nil k.mine) in
      let whole : record { own = own; parts = kept; asked = asked } ≡ core_of k.mine
      = λ j. record { own = k.owns j; parts = (k.counts ∙ times-count k.mine) j; asked = k.asks j } in
      whole ∙ sym (ap core_of mine)

  -- as the core's rows lie
  laid : Laid k.mine own.rows own.times own.count kept
  laid =
      record {
        number = ap (λ (x : Table). x.count) k.owns;
        total = k.counts;
        rows_are = ap (λ (x : Table). x.rows) k.owns;
        times_are = ap (λ (x : Table). x.times) k.owns;
      }

  -- the next row
  module _ (n : Next rows rest i k.tasks) where
    abbrev row : Row
    row = get_or rows i zero_row

    -- as many times are taken as the row says
    taken : length (take row.parts rest) ≡ row.parts
    taken = ap length n.own ∙ sym (ap (λ (r : Row). r.parts) n.row)

    -- it is the task's
    whose : task_of row (take row.parts rest) ≡ n.task
    whose = rw (n.own, n.row) refl

    -- there are rows enough for it and for the others
    few_here : length k.mine + suc (length n.others) ≤ 64
    few_here = rw n.first at k.few

    -- and times
    room_here : kept + (row.parts + length (all_times n.others)) ≤ 1024
    unfolding each
    room_here =
        let all : kept + length (n.task.times ++ all_times n.others) ≤ 1024 = rw n.first at k.room in
        omega (arith, all, length-append n.task.times (all_times n.others), taken, ap length n.own)

    -- the times behind those of the core, as the code puts them there
    abbrev put : List ℕ
    put = take kept own.times ++ (take row.parts rest ++ drop (kept + length (take row.parts rest) - kept) (drop kept own.times))

    -- they are stored there
    put_is : put ≡ sets own.times kept (take row.parts rest)
    put_is =
        let long : length own.times ≡ 1024 = times_long laid (omega (arith, room_here)) in
        let past : kept + length (take row.parts rest) - kept ≡ length (take row.parts rest) = omega arith in
        rw (past, drop-drop, ← append_assoc) (sym (sets-eq (take row.parts rest) own.times kept (omega (arith, taken, room_here))))

    -- so a row of the core lies behind the others
    laid-more : Laid (k.mine ++ (n.task ∷ [])) (set own.rows own.count row) put (own.count + 1) (kept + row.parts)
    laid-more =
        laid_sets laid n.task row (take row.parts rest) n.row n.own put (omega (arith, laid.number, few_here))
        (omega (arith, taken, room_here)) put_is

    -- what is asked of it stands behind what is asked of the others
    asked-more : set asked own.count (asked_of (task_of row (take row.parts rest)))
        ≡ pad_to asked_nothing 64 (map asked_of (k.mine ++ (n.task ∷ [])))
    asked-more =
        let place : own.count ≡ length (map asked_of k.mine) = laid.number ∙ sym (length-map k.mine asked_of) in
        let room : length (map asked_of k.mine) < 64 = omega (arith, length-map k.mine asked_of, few_here) in
        ap (λ u. set asked own.count (asked_of u)) whose
        ∙ rw (k.asks, place)
        (set-pad asked_nothing 64 (map asked_of k.mine) (asked_of n.task) room
        ∙ ap (pad_to asked_nothing 64) (sym (map-append asked_of k.mine (n.task ∷ []))))

    -- a row of the core is kept
    row_kept : {behind : List ℕ} → behind ≡ drop row.parts rest → row.core ≡ core
        → Keeping t core (record { count = own.count + 1; rows = set own.rows own.count row; times = put })
        (kept + length (take row.parts rest)) (set asked own.count (asked_of (task_of row (take row.parts rest)))) rows behind (i + 1)
    row_kept b on =
        rw b
        record {
          mine = k.mine ++ (n.task ∷ []);
          owns = laid_stored laid-more;
          counts = rw taken laid-more.total;
          asks = asked-more;
          tasks = n.others;
          left = n.left;
          all =
              k.all
              ∙ ap (◌++◌ k.mine) (ap (on_core core) n.first ∙ core_first core n.task _ (sym (ap (λ (r : Row). r.core) n.row) ∙ on))
              ∙ sym (append_snoc k.mine n.task _);
          few = rw length-append (omega (arith, few_here));
          room = omega (arith, taken, room_here);
        }

    -- any other is passed over
    row_passed : {behind : List ℕ} → behind ≡ drop row.parts rest → (row.core ≡ core → ⊥)
        → Keeping t core own kept asked rows behind (i + 1)
    row_passed b off =
        rw b
        record {
          mine = k.mine;
          owns = k.owns;
          counts = k.counts;
          asks = k.asks;
          tasks = n.others;
          left = n.left;
          all =
              k.all
              ∙ ap (◌++◌ k.mine) (ap (on_core core) n.first ∙ core_other core n.task _ (λ e. off (ap (λ (r : Row). r.core) n.row ∙ e)));
          few = omega (arith, few_here);
          room = omega (arith, room_here);
        }

-- the next row, where the code is at it
here : (c : In-loop-row) → let l = c.loop-row in Next c.used_rows-row-items.result.now l.rest.now l.row-index l.invariant.tasks
here c = next c.loop-row.invariant.tasks c.loop-row.invariant.left c.loop-row-test.true

pub loop-row-init : goal.loop-row-init
unfolding each
loop-row-init c =
    let t = c.args.t.now in
    let good = tasks-good t.table t.all_rows t.all_times t.good in
    rw c.used_rows-row-items.ensures
    record {
      mine = [];
      owns = c.zeros-own.ensures;
      counts = refl;
      asks = refl;
      tasks = tasks_of t.table;
      left = all_left t;
      all = refl;
      few = omega (arith, good.few);
      room = times_fit 0 (tasks_of t.table) (omega arith) good.fine;
    }

pub split_at-requires : goal.split_at-requires
split_at-requires c = (here (goal.at.split_at-requires c).In-loop-row).room

pub slice_bounds-copy_from_slice-end : goal.slice_bounds-copy_from_slice-end
slice_bounds-copy_from_slice-end c =
    omega (arith, room_here c.loop-row.invariant (here (goal.at.slice_bounds-copy_from_slice-end c).In-loop-row))

pub asked_of-requires : goal.asked_of-requires
asked_of-requires c =
    let n = here (goal.at.asked_of-requires c).In-loop-row in rw (c.split_at.ensures.front, n.own) (times-add n.task n.good)

pub loop-row-preserved : goal.loop-row-preserved
loop-row-preserved c =
    let k = c.loop-row.invariant in
    let n = here (goal.at.loop-row-preserved c).In-loop-row in
    let behind = c.split_at.ensures.back in
    elim c.if-row-core.branch [
      | then-row-core w ↦
          rw (w.own-is, w.parts-is, w.asked-is, w.copy_from_slice.ensures.after, w.asked_of.ensures)
          (rw c.split_at.ensures.front (row_kept k n behind w.if-row-core.true))
      | else-row-core w ↦ rw (w.own-is, w.parts-is, w.asked-is) (row_passed k n behind w.if-row-core.false)
    ]

pub returns : goal.returns
returns c =
    let all = ends c.loop-row.invariant c.loop-row-test.false in
    record { is = all; good = core_of-good c.args.t.now c.args.core all }
