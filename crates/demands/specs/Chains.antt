-- Document 02, §4, "Probe to label": when a chain is refused and with which number, in its words; what the delay is and what it means.
use Rattle.std.specs.Prelude.{ℕ, suc, ◌+◌, ◌≤◌, ◌<◌, ◌≡◌, ◌↔◌, List, [], ◌∷◌, length}
use Rattle.lists.specs.Lists.{◌∈◌, Place}
use Rattle.model.specs.Task.{Task, parts}
use Rattle.model.specs.Bounds.{on_core}
use Rattle.model.specs.Machine.{Run}
use Rattle.model.specs.Chains.{Link}
use Rattle.machine.specs.Passing.{AllAllowed, Recurs, PeriodicRecurs, HasPassed, nobody, NoValueIsLater}
use Rattle.table.specs.declared.Verdict.{Verdict}
use Rattle.table.specs.declared.Verdict.TheVariants as C
use Rattle.table.specs.Verdicts.{code_of}
use Rattle.table.specs.declared.Wanted.{Wanted}
use Rattle.analysis.specs.Analysis.{needed}
use Rattle.chains.specs.declared.About.{About}
use Rattle.chains.specs.declared.About.TheVariants as A
use Rattle.chains.specs.declared.Delayed.{Delayed}
use Rattle.chains.specs.declared.ChainStep.{ChainStep}
use Rattle.chains.specs.Lists.{step_count, steps_wanted, steps_from}
use Rattle.chains.specs.Chains.{delay_answer}
use Rattle.chains.specs.Claims.{ListOfTheFront, TableOfTheFront}
use Rattle.demands.specs.Reached.{Stands, Along}
use Rattle.demands.specs.Rules.{NumberRule, FileRule, GoodFile, CoreRule}
use Rattle.demands.specs.Equations.{IsWindow, IsBound}

-- ---- the list: 1, 2, 3, 8

-- the count stands in front, and of the numbers of that many steps these stand behind it; the others are wanted at the next place
pub record ListReached (s : List ℕ) (numbers : List ℕ) (others : List Wanted) (next : ℕ) : Type 0 where
  pub count : ℕ
  pub at : ℕ
  pub first : Stands s step_count 0 count at
  pub behind : Along (Stands s) (steps_wanted count) at numbers others next

-- after the numbers before it, all fine, this number is wanted at a place
pub data ListWants (s : List ℕ) : ℕ → Wanted → Type 0 where
  count : ListWants s 0 step_count
  of_steps : {numbers : List ℕ} {w : Wanted} {ws : List Wanted} {at : ℕ} → ListReached s numbers (w ∷ ws) at → ListWants s at w

-- the list is these steps, and no byte stands behind them
pub record WholeList (s : List ℕ) (steps : List ChainStep) : Type 0 where
  pub numbers : List ℕ
  pub at : ℕ
  pub reached : ListReached s numbers [] at
  pub last : length s ≤ at
  pub are : steps ≡ steps_from numbers

-- a list is refused, with offsets in the list
pub data ListRule (s : List ℕ) : Verdict → Type 0 where
  number : {at : ℕ} {w : Wanted} {v : Verdict} → ListWants s at w → NumberRule s w at v → ListRule s v
  -- bytes after the last step: offset of the first
  rest : {numbers : List ℕ} {at : ℕ} → ListReached s numbers [] at → at < length s → ListRule s (C.Trailing at)

-- ---- 16: an unknown task or part

-- a step names this task and this part of it, which the list counts from 1
pub record Names (tasks : List Task) (step : ChainStep) (l : Link) : Type 0 where
  pub row : l.task ∈ tasks
  pub id : l.task.id ≡ step.task
  pub part : suc l.part ≡ step.part
  pub inside : l.part < parts l.task

-- each step of the chain is known
pub data AllNamed (tasks : List Task) : List ChainStep → List Link → Type 0 where
  none : AllNamed tasks [] []
  more : {step : ChainStep} {steps : List ChainStep} {l : Link} {links : List Link}
      → Names tasks step l → AllNamed tasks steps links → AllNamed tasks (step ∷ steps) (l ∷ links)

-- step n, from 0, is the first whose task or part is unknown
pub record FirstUnknown (tasks : List Task) (steps : List ChainStep) (n : ℕ) : Type 0 where
  pub step : ChainStep
  pub here : Place steps n step
  pub unknown : (l : Link) → Names tasks step l → ⊥
  pub known : (i : ℕ) (earlier : ChainStep) → i < n → Place steps i earlier → (l : Link) × Names tasks earlier l

-- ---- the cores, in step order

-- what is said of a core, with room for every bound
abbrev pub CoreSays : List Task → ℕ → Verdict → Type 0
CoreSays tasks core v = CoreRule core (on_core core tasks) (needed (on_core core tasks)) v

-- the first core, in step order, whose code is not 0
pub record FirstRefused (tasks : List Task) (links : List Link) (core : ℕ) (v : Verdict) : Type 0 where
  pub n : ℕ
  pub l : Link
  pub here : Place links n l
  pub its : l.task.core ≡ core
  pub says : CoreSays tasks core v
  pub refused : v ≡ C.Good → ⊥
  pub before : (i : ℕ) (earlier : Link) → i < n → Place links i earlier → CoreSays tasks earlier.task.core C.Good

-- the code of every core on the chain is 0
abbrev pub AllCoresPass : List Task → List Link → Type 0
AllCoresPass tasks links = (l : Link) → l ∈ links → CoreSays tasks l.task.core C.Good

-- ---- the codes of a chain, and what each speaks of

-- a table and a list are good, and the list's steps are this chain
pub record GoodChain (s list : List ℕ) (tasks : List Task) (links : List Link) : Type 0 where
  pub file : GoodFile s tasks
  pub steps : List ChainStep
  pub whole : WholeList list steps
  pub named : AllNamed tasks steps links

-- a chain is refused, or has a delay
pub data ChainRule (s list : List ℕ) : About → Verdict → Type 0 where
  -- the table's reading codes first
  table : {v : Verdict} → FileRule s v → (v ≡ C.Good → ⊥) → ChainRule s list A.File v
  -- for the list 1, 2, 3, 8 with offsets in the list
  list : {tasks : List Task} {v : Verdict} → GoodFile s tasks → ListRule list v → ChainRule s list A.List v
  -- 16 with the step, from 0, for an unknown task or part
  unknown : {tasks : List Task} {steps : List ChainStep} {n : ℕ} → GoodFile s tasks → WholeList list steps
      → FirstUnknown tasks steps n → ChainRule s list A.List (C.UnknownStep n)
  -- then those of the first core, in step order, whose code is not 0
  core : {tasks : List Task} {links : List Link} {core : ℕ} {v : Verdict} → GoodChain s list tasks links
      → FirstRefused tasks links core v → ChainRule s list (A.Core core) v
  good : {tasks : List Task} {links : List Link} → GoodChain s list tasks links → AllCoresPass tasks links
      → ChainRule s list A.Chain C.Good

-- ---- the delay (equation 3)

-- two steps in a row are one task and the later part number is larger
abbrev pub Rising : Link → Link → Type 0
Rising l m = (l.task.id ≡ m.task.id) × (l.part < m.part)

-- a step counts unless it and the next one are so
abbrev pub Counts : Link → List Link → Type 0
Counts l [] = Unit {0}
Counts l (m ∷ links) = Rising l m → ⊥

-- b is the bound of a step: the least solutions of the equations give it
pub record BoundIs (tasks : List Task) (l : Link) (b : ℕ) : Type 0 where
  pub L : ℕ
  pub window : IsWindow (on_core l.task.core tasks) l.task L
  pub bound : IsBound (on_core l.task.core tasks) l.task L l.part b

-- d is the sum of period and bound over the steps that count
pub data SumIs (tasks : List Task) : List Link → ℕ → Type 0 where
  none : SumIs tasks [] 0
  -- the step counts: its period and its bound are added
  counts : {l : Link} {links : List Link} {b d : ℕ} → Counts l links → BoundIs tasks l b → SumIs tasks links d
      → SumIs tasks (l ∷ links) (l.task.period + b + d)
  -- it does not: only the later counts
  later : {l m : Link} {links : List Link} {d : ℕ} → Rising l m → SumIs tasks (m ∷ links) d → SumIs tasks (l ∷ m ∷ links) d

-- ---- what is claimed

-- what an answer says
pub record ChainSays (s list : List ℕ) (r : Delayed) : Type 0 where
  -- the verdict is this one and speaks of that, exactly if the rule says so
  pub codes : (about : About) (v : Verdict) → ((r.about ≡ about) × (r.verdict ≡ v)) ↔ ChainRule s list about v
  -- a refused delay is 0
  pub refused : (code_of r.verdict ≡ 0 → ⊥) → r.delay ≡ 0
  -- a good one is the sum, and no other number is
  pub sum : code_of r.verdict ≡ 0 → (tasks : List Task) (links : List Link) → GoodChain s list tasks links
      → (d : ℕ) → SumIs tasks links d ↔ (r.delay ≡ d)
  -- 32 steps of 16,777,215 and 16,777,215 ticks: 32 bits are enough
  pub short : r.delay ≤ 1073741760
  -- a value that is there at tick u, from which on the tasks of the chain recur, has passed the whole chain by tick u + delay
  pub passed : code_of r.verdict ≡ 0 → (tasks : List Task) (links : List Link) → GoodChain s list tasks links
      → (runs : ℕ → Run) → AllAllowed tasks runs → (u : ℕ)
      → ((l : Link) → l ∈ links → Recurs (runs l.task.core) l.task u)
      → HasPassed tasks runs nobody links u (u + r.delay)

-- for every table and list
pub record Chains : Type 0 where
  pub says : (s list : List ℕ) → ChainSays s list (delay_answer s list)
  -- nor is a value later, by the delay of equation 3, on cores that miss a deadline but whose windows are all within the limit
  pub no_value_is_later : NoValueIsLater
  -- tasks released exactly a period apart recur so, and such runs are allowed (`PeriodicAllowed`)
  pub recurs : PeriodicRecurs
  -- what the program reads of its two files is enough
  pub list_front : ListOfTheFront
  pub table_front : TableOfTheFront
