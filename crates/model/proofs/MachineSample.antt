-- The machine moves as the sample says: by computing.
use mathlib.Core.Path.{refl}
use Rattle.model.specs.MachineSample.{one_less, MachineSample}
use Rattle.model.proofs.Computed.{machine_ticks}

pub machine_sample : MachineSample
unfolding machine_ticks one_less
machine_sample =
    record {
      all_together = refl;
      part_open = refl;
      part_ended = refl;
      job_done = refl;
      later_second = refl;
      third_blocks = refl;
      two_pending = (refl, refl);
      first_ends = refl;
      second_begins = refl;
      shorter_part = refl;
    }
