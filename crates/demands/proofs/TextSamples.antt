-- The worked cases of texts hold: each computes. Assumes nothing.
use mathlib.Core.Path.{refl}
use Rattle.demands.specs.TextSamples.{TextSamples}
use Rattle.demands.proofs.Opened.{text-read, lines_written}

-- all of them
pub text_samples : TextSamples
unfolding text-read lines_written
text_samples =
    record {
      return_alone = refl;
      return_first = refl;
      range_first = refl;
      few_fields = refl;
      leading_zero = refl;
      no_digit = refl;
      empty_line = refl;
      no_field = refl;
      bare_feed = refl;
      empty_second = refl;
      long = refl;
      long_bad = refl;
      no_times_left = refl;
      no_line_more = refl;
      empty = refl;
      read_a = refl;
      read_quoted_a = refl;
      write_a = refl;
    }
