-- `cores::longest_below` meets its contract: what `max` picks is the largest. Assumes nothing.
use Rattle.std.proofs.Common.{◌∙◌, Bool, List, map, ap, ltb, rules, tests}
use Rattle.std.proofs.lemmas.Iterator.{YieldsList-from_slice, YieldsList-from_map}
use Rattle.std.proofs.lemmas.Iterator.Consumers.{YieldsList-at, YieldsList-from_filter, max_from_yields_List}
use Rattle.lists.specs.Lists.{largest}
use Rattle.cores.specs.declared.Asked.{Asked}
use Rattle.cores.proofs.Folds.{largest_is, keep_is}
use Rattle.cores.proofs.longest_below.Goals as goal

pub returns : goal.returns
returns c =
    let below : Asked → Bool = λ a. ltb a.priority c.args.priority in
    c.unwrap_or.ensures
    ∙ largest_is _ _
    (max_from_yields_List _ _ c.max.ensures.ran
    (YieldsList-from_map _ (λ (a : Asked). a.longest)
    (YieldsList-at c.map.ensures.source
    (YieldsList-from_filter _ below (YieldsList-from_slice c.args.asked.now cc)
    c.filter.ensures.closure (λ x r q k. search (rules, tests))))
    c.map.ensures.closure (λ x r q k. search (rules, tests))))
    ∙ ap (λ (l : List Asked). largest (map (λ a. a.longest) l)) (keep_is below c.args.asked.now)
