-- A solution of a part's equations, counted from t0, is a tick by which that part of the job has ended. From how the ticks since
-- t0 are filled; for a cooperative row also from one open part at a time.
use Prim.Native.Nat.{ℕ, suc, ◌+◌, ◌-◌, ◌*◌, ◌≤◌, ◌<◌}
use mathlib.Core.Path.{◌≡◌}
use mathlib.Core.Option.{some}
use mathlib.Core.Bool.{false}
use mathlib.Core.Logic.{⊎_elim}
use native.Mathlib.Omega.{arith}
use native.Mathlib.Decide.{le_ind}
use native.Mathlib.Nat.{suc-mul, add-mul, mul-le-mul_right}
use lib.Dec.{ltb}
use borrow.Author.Tests.{eqb-false}
use Rattle.lists.specs.Lists.{pick, ◌∈◌, keep, total}
use Rattle.lists.proofs.Tests.{by_test, not_below}
use Rattle.lists.proofs.Totals.{total_split}
use Rattle.model.specs.Task.{Task, parts, part, parts_before, cost}
use Rattle.model.specs.Bounds.{before, through, higher, blocking, preemptive}
use Rattle.model.specs.Machine.{released}
use Rattle.model.proofs.Parts.{parts-suc, parts-cost, part_pos}
use Rattle.model.proofs.Demand.{work, work_through}
use Rattle.machine.proofs.Play.{kinds}
use Rattle.machine.proofs.Releases.{at-most-before, at-most-through}
use Rattle.machine.proofs.Ticks.{now, running, priorities}
use Rattle.machine.proofs.Worked.{worked, rests, keeps_work, work_grows, begun_open}
use Rattle.machine.proofs.Open.{open_runs}
use Rattle.machine.proofs.Job.{Job, t0, j, done_by, since, fill}

module _ (job : Job) (r : ℕ) where
  open job use {play, row, its_row, q}
  open play use {rows, run, core}

  -- the row's work up to the end of the part
  abbrev pub part_end : ℕ
  part_end = q * cost row + parts_before row (suc r)

  -- and up to its start
  abbrev part_start : ℕ
  part_start = q * cost row + parts_before row r

  -- a part that has not ended is of a job that is not done
  short : (d : ℕ) → done_by job row d < part_end → done_by job row d < suc q * cost row
  short d lt = omega (arith, parts-cost row (suc r), suc-mul q (cost row))

  -- counted from t0, the work of a row's jobs that are released before tick f
  since_before : (u : Task) → u ∈ rows → (f : ℕ)
      → done_by job u f ≤ released run u (t0 job) * cost u + before u f * cost u
  since_before u n f = since job u n f (before u f) (at-most-before play u n (t0 job) f)

  -- and the work of those through tick s
  since_through : (u : Task) → u ∈ rows → (s : ℕ)
      → done_by job u (suc s) ≤ released run u (t0 job) * cost u + through u s * cost u
  since_through u n s = since job u n (suc s) (through u s) (at-most-through play u n (t0 job) s)

  -- a preemptive row: f solves equation 6
  pub preemptive_ends : blocking rows row ≡ 0 → (f : ℕ)
      → f ≡ work (higher rows row) f + j job * cost row + parts_before row (suc r) → part_end ≤ done_by job row f
  preemptive_ends free f solves = not_below part_end (done_by job row f) late
    where
      late : done_by job row f < part_end → ⊥
      late lt = omega (arith, fill job f (λ u. before u f) (short f lt) (λ u n p. since_before u n f))

  -- a cooperative row: s solves equation 11
  module _ (inside : r < parts row) (coop : row.kind ≡ 1) (s : ℕ)
      (starts : s ≡ blocking rows row + work_through (higher rows row) s + j job * cost row + parts_before row r) where
    -- the part takes a tick
    one : 0 < part row r
    one = part_pos row (core.good row its_row) r inside

    -- the part has run a tick by the end of tick s
    begun : part_start < done_by job row (suc s)
    begun = not_below (suc part_start) (done_by job row (suc s)) late
      where
        late : done_by job row (suc s) < suc part_start → ⊥
        late lt =
            let before-end : done_by job row (suc s) < part_end = omega (arith, parts-suc row r, one) in
            omega (arith, fill job (suc s) (λ u. through u s) (short (suc s) before-end) (λ u n p. since_through u n s))

    -- from then until it ends it is open
    stays_open : (x : ℕ) → t0 job + suc s ≤ x → worked row (now play x row) < part_end → 0 < (now play x row).ran
    stays_open x le lt =
        let more = work_grows play row its_row (t0 job + suc s) x le in
        begun_open play x row its_row q r (omega (arith, begun)) lt

    -- and no higher cooperative row runs
    frozen : (u : Task) → u ∈ rows → u.kind ≡ 1 → row.priority < u.priority → (x : ℕ) → t0 job + suc s ≤ x
        → worked row (now play x row) < part_end → worked u (now play x u) ≤ done_by job u (suc s)
    frozen u n z p x =
        le_ind (λ (v : ℕ). worked row (now play v row) < part_end → worked u (now play v u) ≤ done_by job u (suc s))
        (λ lt. omega arith) next_tick x
      where
        waits : (v : ℕ) → 0 < (now play v row).ran → running play v ≡ some u → ⊥
        waits v o e = omega (arith, priorities (open_runs play v u row n e z its_row coop o))

        next_tick : (v : ℕ) → t0 job + suc s ≤ v
            → (worked row (now play v row) < part_end → worked u (now play v u) ≤ done_by job u (suc s))
            → worked row (now play (suc v) row) < part_end → worked u (now play (suc v) u) ≤ done_by job u (suc s)
        next_tick v le so_far lt =
            let lt' : worked row (now play v row) < part_end = omega (arith, keeps_work play v row its_row) in
            omega (arith, so_far lt', rests play v u n (waits v (stays_open v le lt')))

    -- f solves equation 12: of the higher rows only the preemptive ones come in after tick s
    pub cooperative_ends : (f : ℕ)
        → f ≡ s + part row r + total (λ u. (before u f - through u s) * cost u) (keep preemptive rows)
        → part_end ≤ done_by job row f
    unfolding preemptive higher
    cooperative_ends f solves = not_below part_end (done_by job row f) late
      where
        jobs : Task → ℕ
        jobs u = pick (preemptive u) (before u f) (through u s)

        cooperates : (u : Task) → u ∈ rows → preemptive u ≡ false → u.kind ≡ 1
        cooperates u n t = ⊎_elim (λ y. absurd (eqb-false _ _ t y)) (λ y. y) (kinds play u n)

        most : done_by job row f < part_end → (u : Task) → u ∈ rows → row.priority < u.priority
            → done_by job u f ≤ released run u (t0 job) * cost u + jobs u * cost u
        most lt u n p =
            by_test (preemptive u) (λ t. rw t (since_before u n f))
            (λ t.
            (let still = frozen u n (cooperates u n t) p (t0 job + f) (omega (arith, one)) lt in
            rw t (omega (arith, since_through u n s))))

        comes_in : (u : Task) → before u f * cost u ≤ through u s * cost u + (before u f - through u s) * cost u
        comes_in u =
            let parts· : before u f ≤ through u s + (before u f - through u s) = omega arith in
            omega (arith, mul-le-mul_right (cost u) parts·, add-mul (through u s) (before u f - through u s) (cost u))

        split : total (λ u. jobs u * cost u) (higher rows row)
            ≤ work_through (higher rows row) s + total (λ u. (before u f - through u s) * cost u) (keep preemptive rows)
        split =
            total_split (λ t. ltb row.priority t.priority) preemptive (λ u. jobs u * cost u)
            (λ u. through u s * cost u) (λ u. (before u f - through u s) * cost u) rows (λ u n p t. rw t (comes_in u))
            (λ u n p t. rw t (omega arith))

        late : done_by job row f < part_end → ⊥
        late lt = omega (arith, fill job f jobs (short f lt) (most lt), split, parts-suc row r)
