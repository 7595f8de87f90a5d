-- `crate::put_analysed` meets its contract: what analysis gives for the core is what its text prints. Assumes nothing.
use borrow.Author.Rules.{rules}
use mathlib.Core.Path.{◌≡◌, refl, sym, ap, ◌∙◌}
use Rattle.table.specs.Memory.{used_rows, tasks_of}
use Rattle.cores.specs.Cores.{tasks_in}
use Rattle.cores.proofs.AskedRows.{tasks_in_lem}
use Rattle.text.proofs.Fitting.{fits_as}
use Rattle.sheet.specs.Sheet.{core_text}
use Rattle.sheet.specs.Promises.{core_bytes}
use Rattle.sheet.proofs.CoreTexts.{enough, text_is}
use Rattle.sheet.proofs.put_analysed.Goals.{After-analyse_core-answer}
use Rattle.sheet.proofs.put_analysed.Goals as goal

-- what is said of the core is its text
same : (c : After-analyse_core-answer)
    → core_bytes c.args.core (used_rows c.core_of-c.result.own) c.analyse_core-answer.new.room c.analyse_core-answer.result.verdict
    ≡ core_text (tasks_of c.args.t.now.table) c.args.core
same c =
    let made = c.core_of-c.ensures in
    text_is made.good _ _ c.requires.there (ap tasks_in made.is ∙ tasks_in_lem _) refl c.analyse_core-answer.ensures

pub put_core-requires : goal.put_core-requires
put_core-requires c = record {
  bounds = enough c.core_of-c.ensures.good _ (search rules);
  room = fits_as (sym (same (goal.at.put_core-requires c).After-analyse_core-answer)) c.requires.room;
}

pub returns : goal.returns
returns c = rw (same (goal.at.returns c).After-analyse_core-answer) at c.put_core.ensures
