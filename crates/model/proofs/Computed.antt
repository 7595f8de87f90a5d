-- Names for definitions that samples compute: an answer that says `unfolding machine_ticks` opens the machine, and one that says
-- `unfolding part_ends` opens the starts and ends of parts. Nothing is proved here.
use Prim.Native.Nat.{ℕ}
use Rattle.lists.specs.Lists.{keep, total, sum, largest}
use Rattle.model.specs.Task.{part, parts, parts_before, cost}
use Rattle.model.specs.Least.{scan, least}
use Rattle.model.specs.Bounds as bounds
use Rattle.model.specs.Machine as machine
use Rattle.model.specs.MachineSample.{periodic, ran_in}

-- who is pending, who is open
tests : ℕ
unfolding machine.released machine.pending machine.pending_preemptive machine.pending_cooperative machine.open_cooperative
tests = 0

-- who runs, and what a tick does
steps : ℕ
unfolding tests machine.◌if_none◌ machine.runs machine.is_task machine.after_tick machine.step machine.stand_at bounds.highest bounds.above
steps = 0

-- the ticks of a sample's run
unfoldable pub machine_ticks : ℕ
unfolding steps bounds.preemptive bounds.cooperative part parts periodic bounds.id_of ran_in
machine_ticks = 0

-- the terms of the equations
sides : ℕ
unfolding bounds.blocking bounds.higher bounds.lower bounds.before bounds.through bounds.up bounds.down
sides = 0

-- their least solutions
searches : ℕ
unfolding sides scan least keep total sum largest part parts_before cost bounds.limit bounds.preemptive bounds.cooperative
searches = 0

-- the start and the end of a part
unfoldable pub part_ends : ℕ
unfolding searches bounds.start bounds.end_from bounds.finish
part_ends = 0
