-- The samples hold. What stands on bytes computes; the bounds are cited.
use mathlib.Core.Path.{◌≡◌, refl}
use mathlib.Core.List.{[], ◌∷◌}
use Rattle.model.specs.BoundSamples.{set_a}
use Rattle.model.proofs.BoundSamples as Model
use Rattle.table.specs.declared.Verdict.TheVariants as C
use Rattle.fields.specs.Stepping.{go}
use Rattle.files.specs.Reading.{decode}
use Rattle.analysis.specs.Analysis.{Analyses}
use Rattle.demands.specs.Samples.{bytes_a, Samples}
use Rattle.sheet.proofs.Opened.{bytes_read, core_said_lem, answer_given}

-- Set A's 27 bytes are Set A
read-a : decode (bytes_a 20) ≡ go (set_a 20) 27
unfolding bytes_read
read-a = refl

-- its answer and its room
bounds-a : Analyses (bytes_a 20) 0 (0 ∷ 0 ∷ 0 ∷ 0 ∷ 0 ∷ 6 ∷ []) (record { verdict = C.Good; count = 5 })
    (1 ∷ 4 ∷ 7 ∷ 7 ∷ 10 ∷ 6 ∷ [])
unfolding answer_given
bounds-a =
    let m = Model.samples in
    rw (read-a, m.good_a.0)
    (record {
      answer = refl;
      left = rw (m.bounds_a1, m.bounds_a2.0, m.bounds_a2.1, m.bounds_a3.0, m.bounds_a3.1);
    })

-- all samples hold
pub samples : Samples
unfolding bytes_read core_said_lem
samples =
    let m = Model.samples in
    record {
      on_bounds = m;
      four_bytes = refl;
      zero_last = refl;
      cut = refl;
      read_a = read-a;
      bounds_a = bounds-a;
      good_a = rw m.good_a.1;
      late_a = rw m.late_a;
      limit_good = rw m.limit_good;
      limit_over = rw m.limit_over;
      full_lower = rw m.full_lower;
    }
