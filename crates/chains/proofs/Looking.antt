-- A step in its table: the first row that has its task's id, and what the definition says of it there. Assumes nothing.
use Prim.Native.Nat.{ℕ, zero, suc, ◌-◌, ◌≤◌, ◌<◌}
use native.Mathlib.Omega.{arith}
use borrow.Author.Tests.{eq-eqb, eqb-true, ne_eqb, lt-ltb, le-ltb, ltb-false}
use mathlib.Core.Path.{◌≡◌, refl, sym, ap, ◌∙◌}
use mathlib.Core.Bool.{Bool, true, false}
use mathlib.Core.List.{List, [], ◌∷◌}
use lib.Dec.{eqb, ltb}
use lib.ListN.{length, get_or, drop, drop_of_length-le}
use Rattle.std.specs.Prelude.{Some, None}
use Rattle.std.specs.List.{position, position_or_len}
use Rattle.std.proofs.lemmas.List.Quantifiers.{position-Some}
use Rattle.std.proofs.lemmas.List.Sums.{fails_before_first}
use Rattle.lists.specs.Lists.{Place}
use Rattle.lists.proofs.Tests.{by_test, never}
use Rattle.lists.proofs.Drops.{place_drop}
use Rattle.lists.proofs.Places.{place_get}
use Rattle.model.specs.Task.{Task, parts}
use Rattle.model.specs.Chains.{Link}
use Rattle.table.specs.declared.Row.{Row}
use Rattle.table.specs.declared.Table.{Table}
use Rattle.table.specs.declared.Verdict.TheVariants.{UnknownStep}
use Rattle.table.specs.Memory.{zero_row, row_of, used_rows, tasks_of}
use Rattle.fields.specs.Stepping.{stop, go}
use Rattle.chains.specs.declared.ChainStep.{ChainStep}
use Rattle.chains.specs.Chains.{part_at, link_at}
use Rattle.chains.proofs.Rows.{Sound}
use Rattle.chains.specs.Promises.{StartsOf, IsSpot}
use Rattle.chains.proofs.Rows.{TaskAt, its_rows, tasks-count, task-at}

-- whether a row is that of a step's task
abbrev pub named : ChainStep → Row → Bool
named s r = eqb r.id s.task

-- the tasks that have another id are passed over
passed : (s : ChainStep) (n : ℕ) (tasks : List Task) (at : ℕ)
    → ((j : ℕ) (v : Task) → j < at → Place tasks j v → v.id ≡ s.task → ⊥)
    → link_at tasks s n ≡ link_at (drop at tasks) s n
unfolding link_at Place
passed s n tasks zero none = refl
passed s n [] (suc at) none = refl
passed s n (t ∷ ts) (suc at) none =
    rw (ne_eqb t.id s.task (none 0 t (omega arith) refl)) (passed s n ts at (λ j v h p. none (suc j) v (omega arith) p))

module _ {t : Table} (sound : Sound t) {rows : List Row} (used : rows ≡ used_rows t) (s : ChainStep) where
  -- what a row has is its task's
  told : (j : ℕ) (v : Task) → Place (tasks_of t) j v → get_or rows j zero_row ≡ row_of v
  told j v p = ap (λ (rs : List Row). get_or rs j zero_row) (its_rows sound used) ∙ place_get row_of zero_row (tasks_of t) j v p

  -- where no row before has the id
  from-here : (at n : ℕ) → ((k : ℕ) → k < at → named s (get_or rows k zero_row) ≡ false)
      → link_at (tasks_of t) s n ≡ link_at (drop at (tasks_of t)) s n
  from-here at n none =
      passed s n (tasks_of t) at
      (λ j v h p e. never (eq-eqb _ s.task (ap (λ (r : Row). r.id) (told j v p) ∙ e)) (none j h))

  -- no row has it
  pub no_task_lem : (n : ℕ) → position (named s) rows ≡ None → link_at (tasks_of t) s n ≡ stop (UnknownStep n)
  unfolding link_at
  no_task_lem n e =
      let first : ℕ = position_or_len (named s) rows in
      let past : length rows ≤ first = by_test (ltb first (length rows)) (λ b. absurd (let f = rw b at e in cc)) (ltb-false _ _) in
      from-here first n (λ k h. fails_before_first (named s) rows k zero_row h)
      ∙ rw (drop_of_length-le (tasks_of t) {i = first} (omega (arith, tasks-count sound used)))

  module _ (at : ℕ) (found : position (named s) rows ≡ Some at) where
    -- the first that has it
    first : (at < length rows) × (named s (get_or rows at zero_row) ≡ true) × ((k : ℕ) → k < at → named s (get_or rows k zero_row) ≡ false)
    first = position-Some (named s) rows at zero_row found

    -- its task
    task : TaskAt t rows at
    task = task-at sound used at first.0

    -- which has the id
    id-here : s.task ≡ task.task.id
    id-here = sym (eqb-true _ _ first.1) ∙ ap (λ (r : Row). r.id) task.row

    -- and is the step's
    part-here : (n : ℕ) → link_at (tasks_of t) s n ≡ part_at task.task s n
    unfolding link_at
    part-here n =
        from-here at n first.2 ∙ rw (place_drop (tasks_of t) at task.task task.place, eq-eqb task.task.id s.task (sym id-here))

    -- with as many parts as the row says
    parts-here : (get_or rows at zero_row).parts ≡ parts task.task
    unfolding parts
    parts-here = ap (λ (r : Row). r.parts) task.row

    -- the part is unknown
    pub no_part : (n : ℕ) → (get_or rows at zero_row).parts < s.part → link_at (tasks_of t) s n ≡ stop (UnknownStep n)
    unfolding part_at
    no_part n over = part-here n ∙ rw (lt-ltb (parts task.task) s.part (omega (arith, parts-here)))

    -- or the step is this
    pub link : Link
    link = record { task = task.task; part = s.part - 1 }

    module _ (within : s.part ≤ (get_or rows at zero_row).parts) where
      -- as the definition says
      pub link_is : (n : ℕ) → link_at (tasks_of t) s n ≡ go link (suc n)
      unfolding part_at link
      link_is n = part-here n ∙ rw (le-ltb (parts task.task) s.part (omega (arith, parts-here)))

      -- and is kept as the code has it
      pub spot_is : 1 ≤ s.part → (starts : List ℕ) → StartsOf (tasks_of t) starts
          → IsSpot (tasks_of t) link
          (record {
            task = s.task;
            part = s.part - 1;
            core = (get_or rows at zero_row).core;
            period = (get_or rows at zero_row).period;
            start = get_or starts at 0;
          })
      unfolding link
      spot_is some starts all =
          record {
            at = at;
            row = task.place;
            inside = omega (arith, parts-here);
            is =
                λ j. record {
                  task = id-here j;
                  part = s.part - 1;
                  core = (task.row j).core;
                  period = (task.row j).period;
                  start = all at task.task task.place j;
                };
          }
