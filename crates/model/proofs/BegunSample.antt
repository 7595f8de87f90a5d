-- What delays a part that has begun, as stated: by computing.
use mathlib.Core.Path.{refl}
use Rattle.model.specs.BegunSample.{BegunSample}
use Rattle.model.proofs.Computed.{machine_ticks, part_ends}

pub begun_sample : BegunSample
unfolding machine_ticks part_ends
begun_sample =
    record {
      runs_on = refl;
      ends_on = (refl, refl);
      stops = refl;
      next_begins = refl;
      ends_late = (refl, refl);
      waits = refl;
      ends_behind = (refl, refl, refl);
    }
