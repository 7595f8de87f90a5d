-- `files::read` meets its contract: what is loaded, as the verdict and the table. Assumes nothing.
use mathlib.Core.Path.{◌∙◌}
use Rattle.files.specs.Reading.{decode, read_answer}
use Rattle.files.proofs.Steps.{loads_loaded}
use Rattle.files.proofs.read.Goals as goal

pub returns : goal.returns
unfolding read_answer
returns c = c.from.ensures ∙ loads_loaded (decode c.args.bytes.now) _ c.load.ensures
