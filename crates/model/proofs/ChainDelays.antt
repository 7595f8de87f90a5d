-- The delays along the sample's chains: from the bounds of Set A, by adding up.
use mathlib.Core.Path.{refl}
use native.Mathlib.Omega.{arith}
use Rattle.lists.specs.Lists.{keep, total}
use Rattle.model.specs.Bounds.{on_core}
use Rattle.model.specs.Chains.{same_job, counts, counting, bound_of, step_delay, delay}
use Rattle.model.specs.ChainDelays.{ChainDelays}
use Rattle.model.proofs.BoundSamples.{samples}

pub chain_delays : ChainDelays
unfolding keep total on_core same_job counts counting bound_of step_delay delay
chain_delays =
    let r1 = samples.bounds_a1 in
    let r2 = samples.bounds_a2 in
    record {
      later_counts = refl;
      in_order = omega arith;
      twice = omega arith;
      falling = omega arith;
      between = omega arith;
    }
