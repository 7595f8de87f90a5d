-- `files::answer_with` meets its contract: each return is one case of `answer_with`. Assumes nothing.
use mathlib.Core.Path.{◌∙◌}
use Rattle.table.proofs.Codes.{passed, refused}
use Rattle.files.specs.Promises.{answer_with}
use Rattle.files.proofs.answer_with.Goals as goal

pub returns-in-Ok : goal.returns-in-Ok
unfolding answer_with
returns-in-Ok c = rw (passed _ c.in-Ok.ensures)

pub returns-in-Err : goal.returns-in-Err
unfolding answer_with
returns-in-Err c = let f = refused _ c.in-Err.ensures in c.from.ensures ∙ rw (f.0, ← f.1)
