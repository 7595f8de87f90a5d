-- A list of steps is refused exactly when a rule of reading says so, and else its steps are read; these are few, and their parts count
-- from 1. Assumes nothing.
use Prim.Native.Nat.{ℕ, ◌≤◌}
use borrow.Author.Tests.{lt-ltb, le-ltb}
use mathlib.Core.Path.{◌≡◌, refl}
use mathlib.Core.Logic.{◌⊎◌, inl, inr, ⊎_elim}
use mathlib.Core.List.{List, []}
use lib.ListN.{length}
use Rattle.lists.specs.Lists.{◌∈◌}
use Rattle.lists.proofs.Tests.{either}
use Rattle.table.specs.declared.Verdict.{Verdict}
use Rattle.table.specs.declared.Wanted.{Wanted}
use Rattle.fields.specs.Stepping.{stop, go, ◌then◌, field_at, fields_at}
use Rattle.fields.proofs.Taken as taken
use Rattle.chains.specs.declared.ChainStep.{ChainStep}
use Rattle.chains.specs.Lists.{step_count, steps_wanted, steps_from, steps_at, list_numbers, decode_list}
use Rattle.chains.proofs.Steps.{fine_long, part-from_1, steps_of}
use Rattle.demands.specs.Reached.{Stands, Along}
use Rattle.demands.specs.Chains.{ListReached, ListWants, WholeList, ListRule}
use Rattle.demands.proofs.Along.{stopped_or-not, along_read, fields_reached}
use Rattle.demands.proofs.Reached.{stands_read, read_stands, in_file}
use Rattle.demands.proofs.NumberRule.{rule_refuses, refused-rule}

-- ---- from the words to the reader

module _ {s : List ℕ} where
  -- where the number wanted is refused, so is the list
  wants_read : {at : ℕ} {w : Wanted} {v : Verdict} → ListWants s at w → field_at s w at ≡ stop v → decode_list s ≡ stop v
  unfolding decode_list list_numbers steps_at fields_at ◌then◌
  wants_read ListWants.count e = rw e
  wants_read (ListWants.of_steps r) e = rw (stands_read r.first, along_read (in_file s) [] r.behind, e)

  -- what a rule says is said
  pub rule-list : {v : Verdict} → ListRule s v → decode_list s ≡ stop v
  unfolding decode_list list_numbers steps_at fields_at ◌then◌
  rule-list (ListRule.number {at} {w} a r) = wants_read a (rule_refuses s w at r)
  rule-list (ListRule.rest {at = at} r h) =
      rw (stands_read r.first, along_read (in_file s) [] r.behind, lt-ltb at (length s) h)

  -- the steps of a whole list are read
  pub whole_list : {steps : List ChainStep} (w : WholeList s steps) → decode_list s ≡ go steps w.at
  unfolding decode_list list_numbers steps_at fields_at ◌then◌
  whole_list w =
      rw
      (stands_read w.reached.first, along_read (in_file s) [] w.reached.behind, le-ltb w.at (length s) w.last, w.are)

-- ---- from the reader to the words

-- a list that is refused, or whole
abbrev pub Decided : List ℕ → Type 0
Decided s = ((v : Verdict) × ListRule s v) ⊎ ((steps : List ChainStep) × WholeList s steps)

module _ (s : List ℕ) where
  -- the steps, behind their count
  steps_rule : (count at : ℕ) → Stands s step_count 0 count at → Decided s
  steps_rule count at first =
      ⊎_elim
      (λ f. ⊎_elim (λ h. inl (_, ListRule.rest (reached f.along) h)) (λ h. inr (_, whole f.along h)) (either f.n (length s)))
      (λ f. inl (f.v, ListRule.number (ListWants.of_steps (reached f.along)) (refused-rule s f.w f.n f.v f.refused)))
      (fields_reached (in_file s) (steps_wanted count) at)
    where
      reached : {numbers : List ℕ} {others : List Wanted} {n : ℕ} → Along (Stands s) (steps_wanted count) at numbers others n
          → ListReached s numbers others n
      reached behind = record { count = count; at = at; first = first; behind = behind }

      whole : {numbers : List ℕ} {n : ℕ} → Along (Stands s) (steps_wanted count) at numbers [] n → length s ≤ n
          → WholeList s (steps_from numbers)
      whole {numbers} {n} behind last = record { numbers = numbers; at = n; reached = reached behind; last = last; are = refl }

  -- some rule decides
  pub list-rule : Decided s
  list-rule =
      ⊎_elim (λ r. inl (r.0, ListRule.number ListWants.count (refused-rule s step_count 0 r.0 r.1)))
      (λ r. steps_rule r.0 r.1 (read_stands s step_count 0 r.0 r.1 r.2))
      (stopped_or-not (field_at s step_count 0))

-- ---- the steps of a list

-- so many steps, whose parts count from 1
pub record FineSteps (n : ℕ) (steps : List ChainStep) : Type 0 where
  pub many : length steps ≡ n
  pub from1 : (step : ChainStep) → step ∈ steps → 1 ≤ step.part

-- such are those of a list, of which there are at most 32
pub list_fine : {s : List ℕ} {steps : List ChainStep} → WholeList s steps → (n : ℕ) × (n ≤ 32) × FineSteps n steps
unfolding fields_at
list_fine {s} w =
    let r = w.reached in
    let read = along_read (in_file s) [] r.behind in
    let fine = (taken.taken_all (taken.in_file s) (steps_wanted r.count) r.at w.numbers w.at read).fine in
    let many = steps_of r.count w.numbers (fine_long r.count w.numbers fine) in
    (r.count, r.first.may.range.most, rw w.are (record { many = many; from1 = part-from_1 r.count w.numbers fine }))
