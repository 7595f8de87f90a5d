-- What is claimed of texts, all of it together. From the rules of texts and the claims of comma.
use Rattle.comma.specs.Writing.{table_lines}
use Rattle.comma.proofs.Claims.{read_as_file, written_text_is_read, empty_text_has_no_rows}
use Rattle.comma.proofs.Claims.{read_text_is_written, good_text_is_short, import_is_read, export_is_read, unused_has_no_say_in_text}
use Rattle.demands.specs.Texts.{Texts}
use Rattle.demands.proofs.TableCodes.{write_says}
use Rattle.demands.proofs.TextRule.{reads_text}

pub texts : Texts
texts =
    record {
      reads = reads_text;
      as_file = read_as_file;
      writing = λ t. write_says t (table_lines t);
      written_is_read = written_text_is_read;
      read_is_written = read_text_is_written;
      empty = empty_text_has_no_rows;
      short = good_text_is_short;
      imports = import_is_read;
      exports = export_is_read;
      unused = unused_has_no_say_in_text;
    }
