-- The worked chains hold: what stands on bytes computes; Set A's verdicts and bounds are cited, and so is a core without a window.
use mathlib.Core.Path.{refl}
use Rattle.model.specs.Chains.{same_job, counts, counting, bound_of, step_delay, delay}
use Rattle.model.proofs.BoundSamples as Model
use Rattle.model.proofs.ChainDelays.{chain_delays}
use Rattle.sheet.proofs.Opened.{bounds-found, core_judged}
use Rattle.demands.specs.ChainSamples.{ChainSamples}
use Rattle.demands.proofs.SampleB.{judged2}
use Rattle.demands.proofs.Opened.{chain-answered}

-- all of them
pub chain_samples : ChainSamples
unfolding chain-answered
chain_samples =
    let m = Model.samples in
    let d = chain_delays in
    record {
      chain_a = rw (m.good_a.0, d.in_order);
      twice = rw (m.good_a.0, d.twice);
      falling = rw (m.good_a.0, d.falling);
      table = refl;
      none = refl;
      cut = refl;
      long = refl;
      no_step = refl;
      too_many = refl;
      task0 = refl;
      part65 = refl;
      behind = refl;
      no_task = refl;
      no_part = refl;
      late = rw m.late_a;
      unknown_first = refl;
      core_order = rw judged2;
      two_cores = unfold bounds-found core_judged same_job counts counting bound_of step_delay delay in refl;
    }
