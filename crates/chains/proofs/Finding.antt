-- The steps of a list found in their table one by one: what was found so far, and what the definition says of the rest. Assumes nothing.
use Prim.Native.Nat.{ℕ, suc, ◌+◌, ◌≤◌, ◌<◌}
use native.Mathlib.Numerals.{add-one}
use native.Mathlib.Omega.{arith}
use mathlib.Core.Path.{◌≡◌, refl, sym, ◌∙◌}
use mathlib.Core.Logic.{⊎_elim}
use mathlib.Core.List.{List, [], ◌∷◌, ◌++◌}
use lib.ListN.{length, get_or, drop, length-append, drop_of_length-le, get_or-append}
use lib.Seq.{drop-cons, get_or-append_seam}
use Rattle.lists.specs.Lists.{Place}
use Rattle.lists.proofs.Places.{place_below, place_snoc}
use Rattle.model.specs.Task.{Task}
use Rattle.model.specs.Chains.{Link}
use Rattle.table.specs.declared.Verdict.{Verdict}
use Rattle.fields.specs.Stepping.{stop, go, ◌then◌}
use Rattle.chains.specs.declared.Spot.{Spot}
use Rattle.chains.specs.declared.ChainStep.{ChainStep}
use Rattle.chains.specs.Chains.{link_at, links_at}
use Rattle.chains.specs.Promises.{IsSpot, Spots, no_spot}

-- no step
abbrev pub no_step : ChainStep
no_step = record { task = 0; part = 0 }

-- i steps are found, the rest is still to be looked for
pub record Finding (tasks : List Task) (steps : List ChainStep) (spots : List Spot) (i : ℕ) : Type 0 where
  pub done : List Link
  pub count : i ≡ length done
  pub found : Spots tasks done spots
  pub same : links_at tasks steps [] 0 ≡ links_at tasks (drop i steps) done i

-- at first none is
pub none_found : (tasks : List Task) (steps : List ChainStep) → Finding tasks steps [] 0
unfolding Place
none_found tasks steps =
    record { done = []; count = refl; found = record { few = omega arith; count = refl; spot = λ i l p. absurd p }; same = refl }

-- one step more has its spot
spots_more : {tasks : List Task} {done : List Link} {spots : List Spot} → Spots tasks done spots → length done < 32
    → (l : Link) (s : Spot) → IsSpot tasks l s → Spots tasks (done ++ (l ∷ [])) (spots ++ (s ∷ []))
spots_more {tasks} {done} {spots} k room l s is =
    record {
      few = rw length-append (omega arith);
      count = omega (arith, k.count, length-append spots (s ∷ []), length-append done (l ∷ []));
      spot = λ j m p. ⊎_elim (old j m) (λ q. (new j m q.0 q.1)) (place_snoc done l j m p);
    }
  where
    old : (j : ℕ) (m : Link) → Place done j m → IsSpot tasks m (get_or (spots ++ (s ∷ [])) j no_spot)
    old j m p = rw (get_or-append spots (s ∷ []) no_spot j (omega (arith, place_below done j m p, k.count))) (k.spot j m p)

    new : (j : ℕ) (m : Link) → j ≡ length done → l ≡ m → IsSpot tasks m (get_or (spots ++ (s ∷ [])) j no_spot)
    new j m e q = rw (e ∙ sym k.count, get_or-append_seam spots s [] no_spot, ← q) is

module _ {tasks : List Task} {steps : List ChainStep} {spots : List Spot} {i : ℕ} (k : Finding tasks steps spots i) where
  module _ (h : i < length steps) where
    -- one step more is found
    pub one_found : i < 32 → {l : Link} {p : Spot} → link_at tasks (get_or steps i no_step) i ≡ go l (suc i) → IsSpot tasks l p
        → Finding tasks steps (spots ++ (p ∷ [])) (i + 1)
    unfolding links_at ◌then◌
    one_found room {l} {p} e is =
        record {
          done = k.done ++ (l ∷ []);
          count = rw length-append (omega (arith, k.count));
          found = spots_more k.found (omega (arith, k.count)) l p is;
          same = k.same ∙ rw (drop-cons steps i no_step h, e, add-one);
        }

    -- a step is unknown
    pub not_found : {v : Verdict} → link_at tasks (get_or steps i no_step) i ≡ stop v → links_at tasks steps [] 0 ≡ stop v
    unfolding links_at ◌then◌
    not_found e = k.same ∙ rw (drop-cons steps i no_step h, e)

  -- all are found
  pub all_found : length steps ≤ i → links_at tasks steps [] 0 ≡ go k.done i
  unfolding links_at
  all_found h = k.same ∙ rw (drop_of_length-le steps h)
