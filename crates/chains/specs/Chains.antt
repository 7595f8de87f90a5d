-- Document 02, §4, "Probe to label": the answer for a table and a list of steps.
use Rattle.std.specs.Prelude.{ℕ, suc, ◌-◌, List, [], ◌∷◌, ◌++◌, map, eqb, ltb}
use Rattle.lists.specs.Lists.{pick}
use Rattle.model.specs.Task.{Task, parts}
use Rattle.model.specs.Chains.{Link, delay}
use Rattle.table.specs.declared.Verdict.{Verdict}
use Rattle.table.specs.declared.Verdict.TheVariants.{Good, UnknownStep}
use Rattle.table.specs.Verdicts.{good}
use Rattle.fields.specs.Stepping.{Step, stop, go, ◌then◌}
use Rattle.files.specs.Reading.{decode}
use Rattle.analysis.specs.Analysis.{said_of}
use Rattle.chains.specs.declared.About.{About}
use Rattle.chains.specs.declared.About.TheVariants as A
use Rattle.chains.specs.declared.Delayed.{Delayed}
use Rattle.chains.specs.declared.ChainStep.{ChainStep}
use Rattle.chains.specs.Lists.{decode_list}

-- step n, whose task is t: that part of it, counted from 0, or 16 for an unknown part
unfoldable pub part_at : Task → ChainStep → ℕ → Step Link
part_at t s n = pick (ltb (parts t) s.part) (stop (UnknownStep n)) (go (record { task = t; part = s.part - 1 }) (suc n))

-- step n in its table; 16 too for an unknown task
unfoldable pub link_at : List Task → ChainStep → ℕ → Step Link
link_at [] s n = stop (UnknownStep n)
link_at (t ∷ ts) s n = pick (eqb t.id s.task) (part_at t s n) (link_at ts s n)

-- the steps from step n on, behind those that are done; the place is the number of the next step
unfoldable pub links_at : List Task → List ChainStep → List Link → ℕ → Step (List Link)
links_at tasks [] done n = go done n
links_at tasks (s ∷ steps) done n = link_at tasks s n then λ link n. links_at tasks steps (done ++ (link ∷ [])) n

-- the chain that a list names in a table
unfoldable pub chain_in : List Task → List ℕ → Step (List Link)
chain_in tasks list = decode_list list then λ steps at. links_at tasks steps [] 0

-- a refused delay is 0
abbrev pub no_delay : About → Verdict → Delayed
no_delay about v = record { about = about; verdict = v; delay = 0 }

-- a good answer, with this delay
abbrev pub good_delay : ℕ → Delayed
good_delay d = record { about = A.Chain; verdict = Good; delay = d }

-- of cores in step order the first whose code is not 0; where there is none, the answer given
unfoldable pub cores_said : List Task → List ℕ → Delayed → Delayed
cores_said tasks [] answer = answer
cores_said tasks (core ∷ cores) answer =
    pick (good (said_of tasks core)) (cores_said tasks cores answer) (no_delay (A.Core core) (said_of tasks core))

-- the core of a step
abbrev pub step_core : Link → ℕ
step_core l = l.task.core

-- a table's answer for the chain that was read: the list's codes, then those of the cores
unfoldable pub chain_said : List Task → Step (List Link) → Delayed
chain_said tasks (stop v) = no_delay A.List v
chain_said tasks (go links n) = cores_said tasks (map step_core links) (good_delay (delay tasks links))

-- the table's reading codes first
unfoldable pub answer_for : Step (List Task) → List ℕ → Delayed
answer_for (stop v) list = no_delay A.File v
answer_for (go tasks next) list = chain_said tasks (chain_in tasks list)

-- the answer, from the bytes of the table file and of the list
unfoldable pub delay_answer : List ℕ → List ℕ → Delayed
delay_answer s list = answer_for (decode s) list
