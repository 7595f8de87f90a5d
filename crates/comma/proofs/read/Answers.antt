-- `comma::read` meets its contract: what is loaded, as the verdict and the table. Assumes nothing.
use mathlib.Core.Path.{◌∙◌}
use Rattle.files.proofs.Steps.{loads_loaded}
use Rattle.comma.specs.Reading.{decode_text, read_text}
use Rattle.comma.proofs.read.Goals as goal

pub returns : goal.returns
unfolding read_text
returns c = c.from.ensures ∙ loads_loaded (decode_text c.args.text.now) _ c.load.ensures
