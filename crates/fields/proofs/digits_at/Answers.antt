-- `fields::digits_at` meets its contract. Assumes nothing.
use Prim.Native.Nat.{ℕ}
use native.Mathlib.Numerals.{one-add}
use native.Mathlib.Omega.{arith}
use mathlib.Core.Path.{◌≡◌, refl, ap, ◌∙◌}
use mathlib.Core.List.{List, [], ◌∷◌}
use lib.ListN.{take, drop}
use Rattle.std.specs.Char.{is_ascii_digit}
use Rattle.std.specs.List.{prefix_len}
use Rattle.std.proofs.Common.{rules, tests}
use Rattle.std.proofs.lemmas.Grind.{common_steps}
use Rattle.std.proofs.lemmas.Bool.Decides.{nat_tests}
use Rattle.std.proofs.lemmas.Iterator.{YieldsList-from_slice}
use Rattle.std.proofs.lemmas.Iterator.Consumers.{count_from_yields_List}
use Rattle.std.proofs.lemmas.Iterator.Search.{YieldsList-from_take_while}
use Rattle.std.proofs.lemmas.List.Folds.{length-prefix_len}
use Rattle.lists.proofs.Tests.{by_test}
use Rattle.text.specs.Numerals.{is_digit, digits_in}
use Rattle.fields.proofs.digits_at.Goals as goal

-- std's test for a digit is that of the definition
ascii : (b : ℕ) → is_ascii_digit b ≡ is_digit b
unfolding is_digit
ascii b = grind (arith, nat_tests)

-- the front that passes it
front : (bs : List ℕ) → take (prefix_len is_digit bs) bs ≡ digits_in bs
unfolding digits_in
front [] = refl
front (b ∷ bs) = by_test (is_digit b) (λ t. rw (t, one-add) (ap (◌∷◌ b) (front bs))) (λ t. rw t)

pub returns : goal.returns
returns c =
    let rest = c.unwrap_or-rest.result.now in
    let same : rest ≡ drop c.args.at c.args.text.now = grind (arith, common_steps) in
    let take = c.take_while.ensures in
    let n : c.count-n.result ≡ prefix_len is_digit rest
    = count_from_yields_List c.take_while.result _ c.count-n.ensures.ran
    (YieldsList-from_take_while _ is_digit (YieldsList-from_slice rest cc) take.closure take.done (λ x b q k. search (rules, tests, ascii)))
    ∙ length-prefix_len is_digit rest in
    rw (n, ← same) (front rest)
