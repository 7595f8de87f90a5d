-- `table::first_clash` meets its contract. No row before row i clashes, nor row i with the rows before this earlier one. Assumes nothing.
use Rattle.std.specs.Prelude.{true, false}
use mathlib.Core.Path.{sym, ◌∙◌}
use Rattle.std.proofs.lemmas.Fn.{says_at_two}
use Rattle.table.proofs.Clashes.{first_past, first_step, inner_next, inner_here, inner_past}
use Rattle.table.proofs.first_clash.Goals as goal
use Rattle.table.proofs.first_clash.Goals.{else-rows-test, then-rows-test+then-loop-earlier-test+then-breaks}

pub loop-earlier-preserved : goal.loop-earlier-preserved
loop-earlier-preserved g c =
    record {
      none = c.loop-earlier.invariant.none;
      apart =
          λ f k.
          inner_next _ _ _ (c.loop-earlier.invariant.apart f k) c.loop-earlier-test.true
          (sym (k _ _ _ (says_at_two g.F.Fn c.breaks.ensures c.if-breaks.false)));
    }

pub rows-preserved : goal.rows-preserved
rows-preserved g c =
    record {
      none = c.loop-earlier.invariant.none;
      apart =
          λ f k.
          c.rows.invariant.apart f k
          ∙ first_step f _ _ c.rows-test.true false (inner_past _ _ _ (c.loop-earlier.invariant.apart f k) c.loop-earlier-test.false);
    }

pub returns : goal.returns
returns g c f k =
    elim c.rows-test.branch [
      | else-rows-test w ↦
          w.first-is ∙ c.rows.invariant.none ∙ sym (c.rows.invariant.apart f k ∙ first_past f _ _ w.rows-test.false)
      | then-rows-test+then-loop-earlier-test+then-breaks w ↦
          w.first-is
          ∙ sym (c.rows.invariant.apart f k
          ∙ first_step f _ _ w.rows-test.true true
          (inner_here _ _ _ (w.loop-earlier.invariant.apart f k) w.loop-earlier-test.true
          (sym (k _ _ _ (says_at_two g.F.Fn w.breaks.ensures w.if-breaks.true)))))
    ]
