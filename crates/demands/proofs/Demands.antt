-- All of it holds.
use Rattle.model.proofs.MachineSample.{machine_sample}
use Rattle.model.proofs.BegunSample.{begun_sample}
use Rattle.model.proofs.Periodic.{periodic_allowed}
use Rattle.model.proofs.ChainDelays.{chain_delays}
use Rattle.machine.proofs.NoRunIsLater.{no_run_is_later}
use Rattle.machine.proofs.PassingSample.{passing_sample}
use Rattle.files.proofs.Short.{good-file_is_short}
use Rattle.files.proofs.Enough.{enough_to_judge}
use Rattle.files.proofs.Unused.{unused_has_no_say}
use Rattle.text.proofs.Decimals as decimals
use Rattle.text.proofs.WholeLines.{lines_are_the_text}
use Rattle.sheet.proofs.Files.{text_is_short, text_is_printed, sheet-of_the_front}
use Rattle.sheet.proofs.OwnLines.{line_of_its_row, line_of_its_core, no_other_line, line_of-a-refusal}
use Rattle.sheet.proofs.SetAReport.{set_a_report}
use Rattle.demands.specs.Demands.{FileClaims, SheetClaims, WorkedSamples, Demands}
use Rattle.demands.proofs.Demand1.{demand1}
use Rattle.demands.proofs.Demand2.{demand2}
use Rattle.demands.proofs.Demand3.{demand3}
use Rattle.demands.proofs.TableCodes.{tables}
use Rattle.demands.proofs.Codes.{code-table}
use Rattle.demands.proofs.GoodRows.{good_tables_lem}
use Rattle.demands.proofs.AfterReading.{no_rows_is_good, after-reading}
use Rattle.demands.proofs.Printing.{printing}
use Rattle.demands.proofs.Samples.{samples}
use Rattle.demands.proofs.SampleB.{sample-b}
use Rattle.demands.proofs.TextSamples.{text_samples}
use Rattle.demands.proofs.ChainSamples.{chain_samples}
use Rattle.demands.proofs.Texts.{texts}
use Rattle.demands.proofs.Chains.{chains}
use Rattle.demands.proofs.Unique.{unique}

-- of files
files : FileClaims
files =
    record {
      codes = code-table;
      good_tables = good_tables_lem;
      no_rows = no_rows_is_good;
      after_reading = after-reading;
      short = good-file_is_short;
      enough = enough_to_judge;
      unused = unused_has_no_say;
    }

-- of the printed sheet
sheets : SheetClaims
sheets =
    record {
      printing = printing;
      decimals = decimals.decimals;
      short = text_is_short;
      printed = text_is_printed;
      front = sheet-of_the_front;
      row_lines = line_of_its_row;
      core_lines = line_of_its_core;
      no_other = no_other_line;
      refused = line_of-a-refusal;
      cut = lines_are_the_text;
    }

-- samples
worked : WorkedSamples
worked =
    record {
      marked = samples;
      set_a = set_a_report;
      sample_b = sample-b;
      texts = text_samples;
      chains = chain_samples;
      machine = machine_sample;
      begun = begun_sample;
      delays = chain_delays;
      passing = passing_sample;
      periodic = periodic_allowed;
    }

-- all of them
pub demands : Demands
demands =
    record {
      demand1 = demand1;
      demand2 = demand2;
      demand3 = demand3;
      never_later = no_run_is_later;
      tables = tables;
      files = files;
      sheets = sheets;
      texts = texts;
      chains = chains;
      samples = worked;
      unique = unique;
    }
