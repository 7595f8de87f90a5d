-- Set A's report is as stated, by computation. Assumes nothing.
use mathlib.Core.Path.{◌≡◌, refl, ap, ◌∙◌}
use Rattle.model.specs.BoundSamples.{set_a}
use Rattle.fields.specs.Stepping.{go}
use Rattle.files.specs.Reading.{decode}
use Rattle.sheet.specs.Sheet.{good_text, text_of, sheet_text}
use Rattle.sheet.specs.SetA.{file_a, report_a, SetAReport}
use Rattle.sheet.proofs.Opened.{bytes_read, bounds-found, core_judged, text_made}

-- the file is Set A
read : decode file_a ≡ go (set_a 20) 27
unfolding bytes_read
read = refl

-- and its tasks print the report
prints : good_text (set_a 20) ≡ report_a
unfolding bounds-found core_judged text_made
prints = refl

-- so the file prints it
pub set_a_report : SetAReport
unfolding sheet_text text_of
set_a_report = ap text_of read ∙ prints
