-- A chain is read step by step and its cores are asked in step order as the rules say: 16 for the first unknown step, then the first core
-- whose code is not 0. From the laws of good files and of cores.
use Prim.Native.Nat.{ℕ, zero, suc, ◌+◌, ◌-◌, ◌≤◌, ◌<◌}
use native.Mathlib.Nat.{add-zero, add-suc, suc-add}
use native.Mathlib.Omega.{arith}
use borrow.Author.Tests.{eq-eqb, eqb-true, lt-ltb, le-ltb}
use mathlib.Core.Path.{◌≡◌, refl, sym, ap, subst, ◌∙◌}
use mathlib.Core.Logic.{◌⊎◌, inl, inr, ⊎_elim}
use mathlib.Core.Bool.{true, false}
use mathlib.Core.List.{List, [], ◌∷◌, ◌++◌, map, append_assoc, append-nil}
use mathlib.Core.List.Memᴰ
use lib.ListN.{length}
use lib.Dec.{eqb}
use Rattle.lists.specs.Lists.{◌∈◌, Place}
use Rattle.lists.proofs.Tests.{by_test, never, either}
use Rattle.model.specs.Task.{Task, parts}
use Rattle.model.specs.Bounds.{on_core}
use Rattle.model.specs.Chains.{Link}
use Rattle.table.specs.declared.Verdict.{Verdict}
use Rattle.table.specs.declared.Verdict.TheVariants as C
use Rattle.table.specs.Verdicts.{good}
use Rattle.fields.specs.Stepping.{stop, go, ◌then◌}
use Rattle.fields.proofs.Taken.{stopped_not}
use Rattle.analysis.specs.Analysis.{needed, said_of}
use Rattle.chains.specs.declared.About.TheVariants as A
use Rattle.chains.specs.declared.Delayed.{Delayed}
use Rattle.chains.specs.declared.ChainStep.{ChainStep}
use Rattle.chains.specs.Chains.{part_at, link_at, links_at, no_delay, cores_said, step_core}
use Rattle.chains.proofs.CoresSaid.{cores_none, cores-next, cores_stop}
use Rattle.demands.specs.Rules.{GoodFile}
use Rattle.demands.specs.Chains.{Names, AllNamed, FirstUnknown, CoreSays, FirstRefused, AllCoresPass}
use Rattle.demands.proofs.CoreRule.{rule_said, said_rule, good-or-not}
use Rattle.demands.proofs.GoodFile.{one-task, core-good}

-- ---- the first of a list

-- the first element of which Q holds: P holds of all before it
record FirstOf {A : Type 0} (P Q : A → Type 0) (xs : List A) : Type 0 where
  n : ℕ
  x : A
  here : Place xs n x
  is : Q x
  before : (i : ℕ) (y : A) → i < n → Place xs i y → P y

module _ {A : Type 0} (P Q : A → Type 0) where
  -- one element more in front
  before_more : (x : A) (xs : List A) (n : ℕ) → P x → ((i : ℕ) (y : A) → i < n → Place xs i y → P y)
      → (i : ℕ) (y : A) → i < suc n → Place (x ∷ xs) i y → P y
  unfolding Place
  before_more x xs n p before zero y h e = subst P e p
  before_more x xs n p before (suc i) y h e = before i y (omega arith) e

  -- where each element is one of the two, P holds of all, or there is a first of which Q does
  all-or_first : (xs : List A) → ((x : A) → x ∈ xs → P x ⊎ Q x) → ((x : A) → x ∈ xs → P x) ⊎ FirstOf P Q xs
  unfolding Place
  all-or_first [] choice = inl (λ x m. absurd (Memᴰ.not-nil m))
  all-or_first (y ∷ ys) choice = on (choice y (Memᴰ.head refl)) (all-or_first ys (λ x m. choice x (Memᴰ.tail m)))
    where
      on : P y ⊎ Q y → ((x : A) → x ∈ ys → P x) ⊎ FirstOf P Q ys → ((x : A) → x ∈ (y ∷ ys) → P x) ⊎ FirstOf P Q (y ∷ ys)
      on (inr q) rest = inr (record { n = 0; x = y; here = refl; is = q; before = λ i z h e. absurd (omega arith) })
      on (inl p) (inl all) = inl (λ x m. ⊎_elim (λ e. subst P (sym e) p) (all x) (Memᴰ.cases_cons m))
      on (inl p) (inr f) =
          inr (record { n = suc f.n; x = f.x; here = f.here; is = f.is; before = before_more y ys f.n p f.before })

-- ---- a step and its table

module _ {tasks : List Task} where
  -- each link of a chain is named by some step
  pub link-named : {steps : List ChainStep} {links : List Link} → AllNamed tasks steps links → (l : Link) → l ∈ links
      → (step : ChainStep) × Names tasks step l
  link-named AllNamed.none l m = absurd (Memᴰ.not-nil m)
  link-named (AllNamed.more {step = step} k others) l m =
      ⊎_elim (λ e. (step, subst (Names tasks step) (sym e) k)) (link-named others l) (Memᴰ.cases_cons m)

  -- there is one for each
  pub links_many : {steps : List ChainStep} {links : List Link} → AllNamed tasks steps links → length links ≡ length steps
  links_many AllNamed.none = refl
  links_many (AllNamed.more k others) = ap suc (links_many others)

module _ {tasks : List Task} {step : ChainStep} {l : Link} (k : Names tasks step l) (n : ℕ) where
  -- a step is read as what it names, where no other row has the id
  link_here : (ts : List Task) → ((t : Task) → t ∈ ts → t.id ≡ l.task.id → t ≡ l.task) → l.task ∈ ts
      → link_at ts step n ≡ go l (suc n)
  unfolding link_at part_at
  link_here [] only m = absurd (Memᴰ.not-nil m)
  link_here (t ∷ ts) only m =
      by_test (eqb t.id step.task)
      (λ e.
      (let same : t ≡ l.task = only t (Memᴰ.head refl) (eqb-true t.id step.task e ∙ sym k.id) in
      let less : step.part - 1 ≡ l.part = omega (arith, k.part) in
      let inside : step.part ≤ parts t = rw same (omega (arith, k.part, k.inside)) in
      rw (e, le-ltb (parts t) step.part inside, same, less)))
      (λ e. rw e (link_here ts (λ u i. only u (Memᴰ.tail i)) (later e (Memᴰ.cases_cons m))))
    where
      later : eqb t.id step.task ≡ false → (l.task ≡ t) ⊎ (l.task ∈ ts) → l.task ∈ ts
      later e (inl q) = absurd (never (eq-eqb t.id step.task (sym (ap (λ (u : Task). u.id) q) ∙ k.id)) e)
      later e (inr i) = i

module _ (step : ChainStep) (from1 : 1 ≤ step.part) (n : ℕ) where
  -- a step names something, or 16 is said
  link-or-not : (ts : List Task) → ((l : Link) × Names ts step l) ⊎ (link_at ts step n ≡ stop (C.UnknownStep n))
  unfolding link_at part_at
  link-or-not [] = inr refl
  link-or-not (t ∷ ts) =
      by_test (eqb t.id step.task)
      (λ e. ⊎_elim (λ h. inr (rw (e, lt-ltb (parts t) step.part h))) (λ h. inl (_, here e h)) (either (parts t) step.part))
      (λ e. ⊎_elim (λ r. inl (r.0, later r.1)) (λ r. inr (rw e r)) (link-or-not ts))
    where
      here : eqb t.id step.task ≡ true → step.part ≤ parts t
          → Names (t ∷ ts) step (record { task = t; part = step.part - 1 })
      here e h =
          record { row = Memᴰ.head refl; id = eqb-true t.id step.task e; part = omega arith; inside = omega arith }

      later : {l : Link} → Names ts step l → Names (t ∷ ts) step l
      later k = record { row = Memᴰ.tail k.row; id = k.id; part = k.part; inside = k.inside }

module _ {s : List ℕ} {tasks : List Task} (file : GoodFile s tasks) where
  -- in a good table a step is read as what it names
  link-read : {step : ChainStep} {l : Link} → Names tasks step l → (n : ℕ) → link_at tasks step n ≡ go l (suc n)
  link-read {l = l} k n = link_here k n tasks (λ t m. one-task file t l.task m k.row) k.row

  -- and 16 is said where it names nothing
  unknown-link : (step : ChainStep) → 1 ≤ step.part → ((l : Link) → Names tasks step l → ⊥) → (n : ℕ)
      → link_at tasks step n ≡ stop (C.UnknownStep n)
  unknown-link step from1 none n = ⊎_elim (λ r. absurd (none r.0 r.1)) (λ r. r) (link-or-not step from1 n tasks)

  -- it names something or nothing
  named-or-not : (step : ChainStep) → 1 ≤ step.part → ((l : Link) × Names tasks step l) ⊎ ((l : Link) → Names tasks step l → ⊥)
  named-or-not step from1 =
      ⊎_elim inl (λ r. inr (λ l k. stopped_not (link_at tasks step 0) r (link-read k 0))) (link-or-not step from1 0 tasks)

  -- ---- the steps of a chain

  -- a chain is read where each step is known
  pub links_read : {steps : List ChainStep} {links : List Link} → AllNamed tasks steps links → (done : List Link) (n : ℕ)
      → (m : ℕ) × (links_at tasks steps done n ≡ go (done ++ links) m)
  unfolding links_at ◌then◌
  links_read AllNamed.none done n = (n, ap (λ (d : List Link). go d n) (sym (append-nil done)))
  links_read (AllNamed.more {l = l} {links = links} k others) done n =
      let r = links_read others (done ++ (l ∷ [])) (suc n) in
      (r.0, rw (link-read k n) (r.1 ∙ ap (λ (d : List Link). go d r.0) (append_assoc done (l ∷ []) links)))

  -- the first unknown step is given
  pub unknown-read : (steps : List ChainStep) → ((x : ChainStep) → x ∈ steps → 1 ≤ x.part) → (k : ℕ) → FirstUnknown tasks steps k
      → (done : List Link) (n : ℕ) → links_at tasks steps done n ≡ stop (C.UnknownStep (n + k))
  unfolding links_at ◌then◌ Place
  unknown-read [] from1 k u done n = absurd u.here
  unknown-read (step ∷ steps) from1 zero u done n =
      let none : (l : Link) → Names tasks step l → ⊥ = rw u.here u.unknown in
      rw (add-zero n, unknown-link step (from1 step (Memᴰ.head refl)) none n)
  unknown-read (step ∷ steps) from1 (suc k) u done n =
      let l = u.known 0 step (omega arith) refl in
      let rest : FirstUnknown tasks steps k = record {
        step = u.step;
        here = u.here;
        unknown = u.unknown;
        known = λ i x h p. u.known (suc i) x (omega arith) p;
      } in
      rw (link-read l.1 n, add-suc n k, ← suc-add n k)
      (unknown-read steps (λ x m. from1 x (Memᴰ.tail m)) k rest (done ++ (l.0 ∷ [])) (suc n))

  -- where each step names something, so does the chain
  all_named : (steps : List ChainStep) → ((x : ChainStep) → x ∈ steps → (l : Link) × Names tasks x l)
      → (links : List Link) × AllNamed tasks steps links
  all_named [] known = ([], AllNamed.none)
  all_named (step ∷ steps) known =
      let l = known step (Memᴰ.head refl) in
      let more = all_named steps (λ x m. known x (Memᴰ.tail m)) in
      (l.0 ∷ more.0, AllNamed.more l.1 more.1)

  -- each step is known, or there is a first that is not
  pub chain-or-not : (steps : List ChainStep) → ((x : ChainStep) → x ∈ steps → 1 ≤ x.part)
      → ((links : List Link) × AllNamed tasks steps links) ⊎ ((n : ℕ) × FirstUnknown tasks steps n)
  chain-or-not steps from1 =
      ⊎_elim (λ known. inl (all_named steps known))
      (λ f. inr (f.n, record { step = f.x; here = f.here; unknown = f.is; known = f.before }))
      (all-or_first _ _ steps (λ x m. named-or-not x (from1 x m)))

  -- ---- the cores of a chain

  -- what is said of a core its rule says
  says_core : (core : ℕ) → CoreSays tasks core (said_of tasks core)
  says_core core = said_rule core (on_core core tasks) (needed (on_core core tasks)) (core-good core file).distinct

  -- and no other verdict
  one_saying : (core : ℕ) {v : Verdict} → CoreSays tasks core v → said_of tasks core ≡ v
  one_saying core = rule_said core (on_core core tasks) (needed (on_core core tasks)) (core-good core file).distinct

  -- a core passes, or its verdict is another
  good-or-refused : (core : ℕ) → CoreSays tasks core C.Good ⊎ ((v : Verdict) × CoreSays tasks core v × (v ≡ C.Good → ⊥))
  unfolding good
  good-or-refused core =
      let says = says_core core in
      ⊎_elim (λ e. inl (subst (CoreSays tasks core) e says)) (λ f. inr (said_of tasks core, says, λ e. never (rw e) f))
      (good-or-not _ _ _ says)

  -- a core that passes leaves it to the others
  pass_next : (answer : Delayed) (l : Link) (links : List Link) → CoreSays tasks (step_core l) C.Good
      → cores_said tasks (map step_core (l ∷ links)) answer ≡ cores_said tasks (map step_core links) answer
  unfolding good
  pass_next answer l links says = cores-next tasks (step_core l) (map step_core links) (rw (one_saying (step_core l) says)) answer

  -- where all cores pass, the answer is given
  pub all_pass : (answer : Delayed) (links : List Link) → AllCoresPass tasks links → cores_said tasks (map step_core links) answer ≡ answer
  all_pass answer [] pass = cores_none tasks answer
  all_pass answer (l ∷ links) pass =
      pass_next answer l links (pass l (Memᴰ.head refl)) ∙ all_pass answer links (λ m i. pass m (Memᴰ.tail i))

  -- where the core of one step is refused and those before it pass, its verdict is given
  refused-at : (answer : Delayed) (links : List Link) (n : ℕ) (l : Link) (v : Verdict) → Place links n l
      → said_of tasks (step_core l) ≡ v → good v ≡ false
      → ((i : ℕ) (earlier : Link) → i < n → Place links i earlier → CoreSays tasks (step_core earlier) C.Good)
      → cores_said tasks (map step_core links) answer ≡ no_delay (A.Core (step_core l)) v
  unfolding Place
  refused-at answer [] n l v here said fault before = absurd here
  refused-at answer (m ∷ links) zero l v here said fault before =
      rw here (cores_stop tasks (step_core l) (map step_core links) (rw said fault) answer ∙ ap (no_delay (A.Core (step_core l))) said)
  refused-at answer (m ∷ links) (suc n) l v here said fault before =
      pass_next answer m links (before 0 m (omega arith) refl)
      ∙ refused-at answer links n l v here said fault (λ i k h p. before (suc i) k (omega arith) p)

  -- the first core, in step order, whose code is not 0 is given
  pub first_refused : (answer : Delayed) {links : List Link} {core : ℕ} {v : Verdict} → FirstRefused tasks links core v
      → cores_said tasks (map step_core links) answer ≡ no_delay (A.Core core) v
  first_refused answer {links} {v = v} f =
      let its : CoreSays tasks (step_core f.l) v = rw f.its f.says in
      ⊎_elim (λ e. absurd (f.refused e))
      (λ fault. rw (← f.its) (refused-at answer links f.n f.l v f.here (one_saying (step_core f.l) its) fault f.before))
      (good-or-not _ _ _ f.says)

  -- all cores of a chain pass, or there is a first that does not
  pub pass_or-not : (links : List Link) → AllCoresPass tasks links ⊎ ((core : ℕ) × (v : Verdict) × FirstRefused tasks links core v)
  pass_or-not links =
      ⊎_elim inl
      (λ f.
      inr (
        step_core f.x,
        f.is.0,
        record { n = f.n; l = f.x; here = f.here; its = refl; says = f.is.1; refused = f.is.2; before = f.before },
      ))
      (all-or_first _ _ links (λ l m. good-or-refused (step_core l)))
