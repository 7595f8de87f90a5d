-- `files::size_of_all` meets its contract: the sizes of the numbers, summed. Assumes nothing.
use Prim.Native.Nat.{ℕ, ◌*◌, ◌≤◌}
use native.Mathlib.Omega.{arith}
use borrow.Author.Rules.{rules}
use mathlib.Core.Path.{◌≡◌, refl, ◌∙◌}
use mathlib.Core.List.{List, [], ◌∷◌}
use lib.ListN.{length, length-append}
use Rattle.std.specs.List.{sum_by}
use Rattle.std.proofs.lemmas.List.Sums.{sum_by-cons}
use Rattle.std.proofs.lemmas.Iterator.{YieldsList-from_slice, YieldsList-from_map}
use Rattle.std.proofs.lemmas.Iterator.Consumers.{sum_by_from_yields_List, fits_by_from_yields_list}
use Rattle.lists.specs.Lists.{each}
use Rattle.numbers.specs.Numbers.{encode, encode_all}
use Rattle.numbers.proofs.Laws.{encode_few}
use Rattle.files.proofs.size_of_all.Goals as goal

-- a number's size
abbrev size : ℕ → ℕ
size n = length (encode n)

-- the sizes, summed, are how long all the bytes are
sizes : (ns : List ℕ) → sum_by size ns ≡ length (encode_all ns)
unfolding each
sizes [] = refl
sizes (n ∷ ns) = omega (arith, sum_by-cons size n ns, length-append (encode n) (encode_all ns), sizes ns)

-- at most five for each number
few : (ns : List ℕ) → sum_by size ns ≤ 5 * length ns
few [] = omega arith
few (n ∷ ns) = omega (arith, sum_by-cons size n ns, encode_few n, few ns)

pub sum-requires-clause-fits : goal.sum-requires-clause-fits
sum-requires-clause-fits c =
    let ns = c.args.numbers.now in
    fits_by_from_yields_list size ns c.map.result _
    (YieldsList-from_map _ size (YieldsList-from_slice ns cc) c.map.ensures.closure (λ x r q k. search rules))
    (omega (arith, few ns, c.requires))

pub returns : goal.returns
returns c =
    let ns = c.args.numbers.now in
    sum_by_from_yields_List size ns c.map.result c.sum.result c.sum.ensures.ran
    (YieldsList-from_map _ size (YieldsList-from_slice ns cc) c.map.ensures.closure (λ x r q k. search rules))
    ∙ sizes ns
