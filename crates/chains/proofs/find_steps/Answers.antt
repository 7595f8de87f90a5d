-- `chains::find_steps` meets its contract: step by step, each looked for in the rows. Assumes nothing.
use Prim.Native.Nat.{◌≤◌}
use native.Mathlib.Omega.{arith}
use borrow.Author.Rules.{rules}
use mathlib.Core.Path.{◌≡◌, refl, sym, ◌∙◌}
use lib.ListN.{get_or}
use Rattle.std.proofs.Common.{tests}
use Rattle.std.specs.List.{position}
use Rattle.std.proofs.lemmas.Iterator.{YieldsList-from_slice}
use Rattle.std.proofs.lemmas.Iterator.Search.{position_from_yields_List}
use Rattle.lists.proofs.Walks.{get_in}
use Rattle.chains.specs.declared.ChainStep.{ChainStep}
use Rattle.chains.proofs.Rows.{sound}
use Rattle.chains.proofs.Looking.{named, no_task_lem, no_part, link_is, spot_is}
use Rattle.chains.proofs.Finding.{no_step, none_found, one_found, not_found, all_found}
use Rattle.chains.proofs.find_steps.Goals.{After-position, In-loop-i}
use Rattle.chains.proofs.find_steps.Goals as goal

-- the step
abbrev step : In-loop-i → ChainStep
step c = get_or c.args.steps.now c.loop-i.i no_step

-- its part is counted from 1
part_there : (c : In-loop-i) → 1 ≤ (step c).part
part_there c = c.requires.part (step c) (get_in no_step c.args.steps.now c.loop-i.i c.loop-i-test.true)

-- the first row that has its task's id
found : (c : After-position) → c.position.result ≡ position (named (get_or c.args.steps.now c.loop-i.i no_step)) c.used_rows-rows.result.now
found c =
    position_from_yields_List (named (get_or c.args.steps.now c.loop-i.i no_step)) _ _ _ c.position.ensures.ran
    (YieldsList-from_slice c.used_rows-rows.result.now cc) (λ x b q k. search (rules, tests))

pub loop-i-init : goal.loop-i-init
loop-i-init c = rw c.new-spots.ensures (none_found _ _)

pub returns-in_default : goal.returns-in_default
returns-in_default c =
    let none = sym (found (goal.at.returns-in_default c).After-position) ∙ c.in_default.is in
    rw (not_found c.loop-i.invariant c.loop-i-test.true (no_task_lem (sound c.args.t.now) c.used_rows-rows.ensures _ _ none))

pub returns-then-row-step : goal.returns-then-row-step
returns-then-row-step c =
    let first = sym (found (goal.at.returns-then-row-step c).After-position) ∙ c.in-Some.is in
    rw (not_found c.loop-i.invariant c.loop-i-test.true
    (no_part (sound c.args.t.now) c.used_rows-rows.ensures _ _ first _ c.if-row-step.true))

pub overflow_sub-step : goal.overflow_sub-step
overflow_sub-step c = omega (arith, part_there (goal.at.overflow_sub-step c).In-loop-i)

pub loop-i-preserved : goal.loop-i-preserved
loop-i-preserved c =
    let first = sym (found (goal.at.loop-i-preserved c).After-position) ∙ c.in-Some.is in
    let used = c.used_rows-rows.ensures in
    let part = part_there (goal.at.loop-i-preserved c).In-loop-i in
    rw c.push.ensures.items
    (one_found c.loop-i.invariant c.loop-i-test.true (omega (arith, c.loop-i-test.true, c.requires.few))
    (link_is (sound c.args.t.now) used _ _ first c.if-row-step.false _)
    (spot_is (sound c.args.t.now) used _ _ first c.if-row-step.false part _ c.starts_of-starts.ensures))

pub returns : goal.returns
returns c = rw (all_found c.loop-i.invariant c.loop-i-test.false) (c.loop-i.spots, refl, c.loop-i.invariant.found)
