-- What is known of a list's steps where the code holds them, and of its chain. Assumes nothing.
use Prim.Native.Nat.{ℕ, ◌≤◌}
use native.Mathlib.Omega.{arith}
use mathlib.Core.Path.{◌≡◌, refl}
use mathlib.Core.Bool.{Bool, true, false}
use mathlib.Core.List.{List, []}
use lib.ListN.{length}
use lib.Dec.{ltb}
use Rattle.std.specs.Prelude.{Ok, Err}
use Rattle.arrayvec.specs.ArrayVec.{ArrayVec}
use Rattle.lists.specs.Lists.{pick}
use Rattle.model.specs.Task.{Task}
use Rattle.table.specs.declared.Verdict.{Verdict}
use Rattle.table.proofs.Fine.{AllFine}
use Rattle.fields.specs.Stepping.{Step, stop, go, ◌then◌, field_at, fields_at}
use Rattle.fields.proofs.Taken.{stopped_not, then_read, field-read, in_file, taken_all}
use Rattle.chains.specs.declared.ChainStep.{ChainStep}
use Rattle.chains.specs.Lists.{step_count, steps_wanted, steps_from, steps_at, list_numbers, decode_list}
use Rattle.chains.specs.Chains.{links_at, chain_in}
use Rattle.chains.specs.Promises.{as_steps, IsList}
use Rattle.chains.proofs.Steps.{fine_long, part-from_1, steps_of}

-- the numbers of its steps, each what it may be
record Numbers (ns : List ℕ) : Type 0 where
  count : ℕ
  few : count ≤ 32
  fine : AllFine (steps_wanted count) ns

-- what was read before an end that is fine
ended : (behind : Bool) (v : Verdict) (ns ms : List ℕ) (m n : ℕ) → pick behind (stop v) (go ns m) ≡ go ms n → ns ≡ ms
ended true v ns ms m n e = stopped_not (stop v) refl e
ended false v ns ms m n e = cc

-- so it is where they were read
numbers-read : (s ns : List ℕ) (next : ℕ) → list_numbers s ≡ go ns next → Numbers ns
unfolding list_numbers steps_at
numbers-read s ns next e =
    let count = then_read (field_at s step_count 0) (λ n at. steps_at s n at) ns next e in
    let few = (field-read s step_count 0 count.what count.place count.first).fine.most in
    let read = then_read (fields_at (field_at s) (steps_wanted count.what) [] count.place) _ ns next count.rest in
    let same = ended (ltb read.place (length s)) _ read.what ns read.place next read.rest in
    let fine = (taken_all (in_file s) (steps_wanted count.what) count.place read.what read.place read.first).fine in
    record { count = count.what; few = few; fine = rw same at fine }

-- a list that the code holds was read, and these are its steps
record Held (x : Step (List ℕ)) (steps : List ChainStep) : Type 0 where
  ns : List ℕ
  next : ℕ
  read : x ≡ go ns next
  same : steps_from ns ≡ steps

-- so it is
held : (x : Step (List ℕ)) (steps : ArrayVec ChainStep) → Ok steps ≡ as_steps x → Held x steps.items
held (stop v) steps e = absurd cc
held (go ns next) steps e = record { ns = ns; next = next; read = refl; same = cc }

-- its refusal is the chain's
pub list-refused : (s : List ℕ) (v : Verdict) → Err v ≡ as_steps (list_numbers s) → (tasks : List Task) → chain_in tasks s ≡ stop v
unfolding chain_in decode_list ◌then◌
list-refused s v e tasks = of (list_numbers s) e
  where
    of : (x : Step (List ℕ)) → Err v ≡ as_steps x
        → ((x then λ numbers at. go (steps_from numbers) at) then λ steps at. links_at tasks steps [] 0) ≡ stop v
    of (stop w) e = cc
    of (go ns n) e = absurd cc

module _ (s : List ℕ) (steps : ArrayVec ChainStep) (e : Ok steps ≡ as_steps (list_numbers s)) where
  -- it has at most 32 steps
  pub list_is : IsList steps.items
  list_is =
      let h = held (list_numbers s) steps e in
      let n = numbers-read s h.ns h.next h.read in
      let count : length (steps_from h.ns) ≡ n.count = steps_of n.count h.ns (fine_long n.count h.ns n.fine) in
      rw (← h.same) (record { few = omega (arith, count, n.few); part = part-from_1 n.count h.ns n.fine })

  -- which are looked for in the table
  pub list-chain : (tasks : List Task) → chain_in tasks s ≡ links_at tasks steps.items [] 0
  unfolding chain_in decode_list ◌then◌
  list-chain tasks = let h = held (list_numbers s) steps e in rw (h.read, h.same)
