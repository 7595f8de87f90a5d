-- The steps of a list read one by one: what was read so far, and what the definition says of the rest. Assumes nothing.
use Prim.Native.Nat.{ℕ, suc, ◌+◌, ◌-◌, ◌≤◌, ◌<◌}
use native.Mathlib.Omega.{arith}
use mathlib.Core.Path.{◌≡◌, refl, sym, ap, ◌∙◌}
use mathlib.Core.List.{List, [], ◌∷◌, ◌++◌, append_assoc, append-nil}
use lib.ListN.{length, get_or, length-append}
use Rattle.table.specs.declared.Verdict.{Verdict}
use Rattle.table.specs.declared.Wanted.{Wanted}
use Rattle.table.specs.Fields.{field}
use Rattle.fields.specs.Stepping.{stop, go, ◌then◌, field_at, fields_at}
use Rattle.fields.proofs.Steps.{fields-append}
use Rattle.chains.specs.declared.ChainStep.{ChainStep}
use Rattle.chains.specs.Lists.{steps_wanted, steps_from, steps_at}

-- what a step's two numbers may be
abbrev pub pair_wanted : List Wanted
pair_wanted = field 1 65535 ∷ field 1 64 ∷ []

-- two numbers are a step
one_step : (pair : List ℕ) → length pair ≡ 2 → (more : List ℕ)
    → steps_from (pair ++ more) ≡ record { task = get_or pair 0 0; part = get_or pair 1 0 } ∷ steps_from more
unfolding steps_from
one_step [] two more = absurd (omega arith)
one_step (task ∷ []) two more = absurd (omega arith)
one_step (task ∷ part ∷ []) two more = refl
one_step (task ∷ part ∷ n ∷ ns) two more = absurd (omega arith)

-- i steps are read, and the next is wanted at p
pub record Stepping (s : List ℕ) (at n : ℕ) (steps : List ChainStep) (p i : ℕ) : Type 0 where
  pub done : List ℕ
  pub held : (more : List ℕ) → steps_from (done ++ more) ≡ steps ++ steps_from more
  pub count : length steps ≡ i
  pub upto : i ≤ n
  pub same : fields_at (field_at s) (steps_wanted n) [] at ≡ fields_at (field_at s) (steps_wanted (n - i)) done p

module _ {s : List ℕ} {at n : ℕ} {steps : List ChainStep} {p i : ℕ} (k : Stepping s at n steps p i) where
  -- one is left: its numbers, and those behind them
  next : i < n → fields_at (field_at s) (steps_wanted n) [] at
      ≡ (fields_at (field_at s) pair_wanted [] p then λ ns m. fields_at (field_at s) (steps_wanted (n - (i + 1))) (k.done ++ ns) m)
  unfolding steps_wanted
  next some =
      let left : n - i ≡ suc (n - (i + 1)) = omega arith in
      let one_more = fields-append (field_at s) pair_wanted (steps_wanted (n - (i + 1))) k.done [] p in
      k.same ∙ rw left (rw append-nil at one_more)

  -- one of its numbers is refused
  pub step_stops : i < n → (v : Verdict) → fields_at (field_at s) pair_wanted [] p ≡ stop v → steps_at s n at ≡ stop v
  unfolding steps_at ◌then◌
  step_stops some v e = rw (next some, e)

  -- it is read: one step more
  pub step-read : i < n → (pair : List ℕ) (q : ℕ) → length pair ≡ 2 → fields_at (field_at s) pair_wanted [] p ≡ go pair q
      → Stepping s at n (steps ++ (record { task = get_or pair 0 0; part = get_or pair 1 0 } ∷ [])) q (i + 1)
  unfolding ◌then◌
  step-read some pair q two e = record {
    done = k.done ++ pair;
    held = λ more.
        rw (append_assoc k.done pair more, k.held (pair ++ more), one_step pair two more, append_assoc steps _ (steps_from more));
    count = rw length-append (omega (arith, k.count));
    upto = omega arith;
    same = next some ∙ rw e;
  }

  -- none is left: all numbers are read
  pub all_read : n ≤ i → fields_at (field_at s) (steps_wanted n) [] at ≡ go k.done p
  unfolding steps_wanted fields_at
  all_read last = let none : n - i ≡ 0 = omega arith in k.same ∙ rw none

  -- their steps are these
  pub all_held : steps_from k.done ≡ steps
  unfolding steps_from
  all_held = sym (ap steps_from (append-nil k.done)) ∙ k.held [] ∙ append-nil steps
