-- The steps that numbers make, two numbers a step: how many, and which parts they name. Assumes nothing.
use Prim.Native.Nat.{ℕ, zero, suc, ◌*◌, ◌≤◌}
use native.Mathlib.Omega.{arith}
use mathlib.Core.Path.{◌≡◌, refl, ap, ◌∙◌}
use mathlib.Core.Logic.{⊎_elim}
use mathlib.Core.List.Memᴰ
use mathlib.Core.List.{List, [], ◌∷◌}
use lib.ListN.{length}
use Rattle.lists.specs.Lists.{◌∈◌}
use Rattle.table.proofs.Fine.{AllFine}
use Rattle.table.proofs.Seven.{all-length}
use Rattle.chains.specs.declared.ChainStep.{ChainStep}
use Rattle.chains.specs.Lists.{steps_wanted, steps_from}

-- two numbers for each step
steps_long : (n : ℕ) → length (steps_wanted n) ≡ 2 * n
unfolding steps_wanted
steps_long zero = refl
steps_long (suc n) = omega (arith, steps_long n)

-- so it is for numbers that are what they may be
pub fine_long : (n : ℕ) (ns : List ℕ) → AllFine (steps_wanted n) ns → length ns ≡ 2 * n
fine_long n ns f = all-length (steps_wanted n) ns f ∙ steps_long n

-- each names a part from 1 on
pub part-from_1 : (n : ℕ) (ns : List ℕ) → AllFine (steps_wanted n) ns → (s : ChainStep) → s ∈ steps_from ns → 1 ≤ s.part
unfolding steps_wanted steps_from AllFine
part-from_1 zero [] f s m = absurd (Memᴰ.not-nil m)
part-from_1 zero (x ∷ ns) f s m = absurd f
part-from_1 (suc n) [] f s m = absurd f
part-from_1 (suc n) (x ∷ []) f s m = absurd f.1
part-from_1 (suc n) (x ∷ y ∷ ns) f s m =
    ⊎_elim (λ e. omega (arith, ap (λ (z : ChainStep). z.part) e, f.1.0.least)) (part-from_1 n ns f.1.1 s) (Memᴰ.cases_cons m)

-- two numbers are a step
pub steps_of : (n : ℕ) (ns : List ℕ) → length ns ≡ 2 * n → length (steps_from ns) ≡ n
unfolding steps_from
steps_of zero [] e = refl
steps_of zero (x ∷ ns) e = absurd (omega arith)
steps_of (suc n) [] e = absurd (omega arith)
steps_of (suc n) (x ∷ []) e = absurd (omega arith)
steps_of (suc n) (x ∷ y ∷ ns) e = ap suc (steps_of n ns (omega arith))
