-- The answer for a table and a list is what the rules of a chain say, and its delay is the sum and means what is claimed. From the rules of
-- files, of lists and of chains, and from the laws of the delay.
use Prim.Native.Nat.{ℕ, ◌≤◌}
use native.Mathlib.Nat.{zero-add}
use native.Mathlib.Omega.{arith}
use mathlib.Core.Path.{◌≡◌, refl, sym, ap, subst, ◌∙◌}
use mathlib.Core.Logic.{⊎_elim}
use mathlib.Core.List.{List, [], map}
use Rattle.lists.specs.Lists.{◌∈◌}
use Rattle.lists.proofs.Tests.{never}
use Rattle.model.specs.Task.{Task}
use Rattle.model.specs.Chains.{Link, delay}
use Rattle.machine.specs.Passing.{StepOf, OneTaskAnId}
use Rattle.machine.proofs.Passing.{periodic_recurs, no_value_is_later_lem}
use Rattle.table.specs.declared.Verdict.{Verdict}
use Rattle.table.specs.declared.Verdict.TheVariants as C
use Rattle.table.specs.Verdicts.{code_of}
use Rattle.table.proofs.Codes.{is_good}
use Rattle.fields.specs.Stepping.{◌then◌}
use Rattle.chains.specs.declared.About.{About}
use Rattle.chains.specs.declared.About.TheVariants as A
use Rattle.chains.specs.declared.Delayed.{Delayed}
use Rattle.chains.specs.declared.ChainStep.{ChainStep}
use Rattle.chains.specs.Chains.{no_delay, good_delay, step_core, cores_said, chain_in, chain_said, answer_for, delay_answer}
use Rattle.chains.proofs.Fronts.{list-of_the_front, table-of_the_front}
use Rattle.demands.specs.Rules.{GoodFile}
use Rattle.demands.specs.Chains.{WholeList, FirstRefused, AllCoresPass, GoodChain, ChainRule, SumIs, ChainSays, Chains}
use Rattle.demands.proofs.FileRule.{reading-fault, good-read, by_rule, file-rule}
use Rattle.demands.proofs.ListRule.{rule-list, whole_list, list-rule, list_fine}
use Rattle.demands.proofs.CoreRule.{good-or-not}
use Rattle.demands.proofs.GoodFile.{task-good, one-task}
use Rattle.demands.proofs.ChainRule.{link-named, links_many, links_read, unknown-read, chain-or-not}
use Rattle.demands.proofs.ChainRule.{all_pass, first_refused, pass_or-not}
use Rattle.demands.proofs.Delays.{step_of, sum_is, one-sum, delay-most}

-- ---- a chain of a good table and a good list

module _ {s list : List ℕ} {tasks : List Task} {links : List Link} (c : GoodChain s list tasks links) where
  -- its steps are rows of the table
  of-table : (l : Link) → l ∈ links → l.task ∈ tasks
  of-table l m = (link-named c.named l m).1.row

  -- its cores speak
  cores_speak : delay_answer s list ≡ cores_said tasks (map step_core links) (good_delay (delay tasks links))
  unfolding delay_answer answer_for chain_in chain_said ◌then◌
  cores_speak = rw (good-read c.file, whole_list c.whole, (links_read c.file c.named [] 0).1)

  -- where they all pass, its delay is the answer
  good-answer : AllCoresPass tasks links → delay_answer s list ≡ good_delay (delay tasks links)
  good-answer pass = cores_speak ∙ all_pass c.file _ links pass

  -- steps with one id are of one task
  one-id : OneTaskAnId links
  one-id l m i j = one-task c.file l.task m.task (of-table l i) (of-table m j)

  -- 32 steps of 16,777,215 and 16,777,215 ticks
  delay_short : delay tasks links ≤ 1073741760
  delay_short =
      let fine = list_fine c.whole in
      let most = delay-most tasks links (λ l m. (task-good c.file l.task (of-table l m)).period.most) in
      omega (arith, links_many c.named, fine.1, fine.2.many)

-- ---- what the rules say

-- the answer that a rule says: 0 where it is refused, and short always
record Said (s list : List ℕ) (about : About) (v : Verdict) : Type 0 where
  delay : ℕ
  same : delay_answer s list ≡ record { about = about; verdict = v; delay = delay }
  zero : (code_of v ≡ 0 → ⊥) → delay ≡ 0
  short : delay ≤ 1073741760

module _ (s list : List ℕ) where
  -- a refused answer
  refused_said : {about : About} {v : Verdict} → delay_answer s list ≡ no_delay about v → Said s list about v
  refused_said e = record { delay = 0; same = e; zero = λ n. refl; short = omega arith }

  -- what a rule says is said
  rule_said : {about : About} {v : Verdict} → ChainRule s list about v → Said s list about v
  unfolding delay_answer answer_for chain_in chain_said ◌then◌
  rule_said (ChainRule.table f n) = refused_said (⊎_elim (λ g. absurd (n g.0)) (λ x. rw x.said) (by_rule f))
  rule_said (ChainRule.list g r) = refused_said (rw (good-read g, rule-list r))
  rule_said (ChainRule.unknown {tasks} {steps} {n} g w u) =
      let first = unknown-read g steps (list_fine w).2.from1 n u [] 0 in
      refused_said (rw (good-read g, whole_list w, first, zero-add n))
  rule_said (ChainRule.core {links = links} c f) =
      refused_said (cores_speak c ∙ first_refused c.file _ f)
  rule_said (ChainRule.good {tasks} {links} c pass) =
      record { delay = delay tasks links; same = good-answer c pass; zero = λ n. absurd (n refl); short = delay_short c }

  -- a rule, what it speaks of and its verdict
  abbrev SomeRule : Type 0
  SomeRule = (about : About) × (v : Verdict) × ChainRule s list about v

  -- some rule holds: of the cores, where a chain is named
  of-cores : {tasks : List Task} {links : List Link} → GoodChain s list tasks links → SomeRule
  of-cores {links = links} c =
      ⊎_elim (λ pass. (A.Chain, C.Good, ChainRule.good c pass)) (λ f. (A.Core f.0, f.1, ChainRule.core c f.2))
      (pass_or-not c.file links)

  -- of the steps, where the list is good
  of_steps_lem : {tasks : List Task} {steps : List ChainStep} → GoodFile s tasks → WholeList list steps → SomeRule
  of_steps_lem {steps = steps} g w =
      ⊎_elim (λ k. of-cores (record { file = g; steps = steps; whole = w; named = k.1 }))
      (λ u. (A.List, C.UnknownStep u.0, ChainRule.unknown g w u.1))
      (chain-or-not g steps (list_fine w).2.from1)

  -- of the table and the list
  some_rule : SomeRule
  some_rule =
      ⊎_elim (λ f. (A.File, f.0, ChainRule.table f.1.rule (reading-fault f.1.code)))
      (λ g. ⊎_elim (λ r. (A.List, r.0, ChainRule.list g.file r.1)) (λ w. of_steps_lem g.file w.1) (list-rule list))
      (file-rule s)

  -- what it says
  said : Said s list some_rule.0 some_rule.1
  said = rule_said some_rule.2

  -- so the answer's rule holds
  its_rule : ChainRule s list (delay_answer s list).about (delay_answer s list).verdict
  its_rule = rw said.same some_rule.2

  module _ {tasks : List Task} {links : List Link} (c : GoodChain s list tasks links) (e : code_of (delay_answer s list).verdict ≡ 0) where
    -- with code 0 no core of the chain is refused
    none_refused : {core : ℕ} {v : Verdict} → FirstRefused tasks links core v → ⊥
    none_refused {v = v} f =
        let code : code_of v ≡ 0 = rw (rule_said (ChainRule.core c f)).same at e in
        ⊎_elim f.refused (never (is_good v code)) (good-or-not _ _ _ f.says)

    -- they all pass
    passed : AllCoresPass tasks links
    passed = ⊎_elim (λ pass. pass) (λ f. absurd (none_refused f.2)) (pass_or-not c.file links)

    -- so the answer is its delay
    its_delay : (delay_answer s list).delay ≡ delay tasks links
    its_delay = ap (λ (d : Delayed). d.delay) (good-answer c passed)

    -- and its steps are the machine's
    its_steps : (l : Link) → l ∈ links → StepOf tasks l
    its_steps l m = step_of c.file (link-named c.named l m).1 (passed l m)

  -- all together
  chain_says : ChainSays s list (delay_answer s list)
  chain_says =
      record {
        codes =
            λ about v. (
              λ e. rw (e.0, e.1) at its_rule,
              λ r. (let q = (rule_said r).same in (ap (λ (d : Delayed). d.about) q, ap (λ (d : Delayed). d.verdict) q)),
            );
        refused = rw said.same said.zero;
        sum =
            λ e tasks links c d. (
              λ i. its_delay c e ∙ one-sum tasks i (its_steps c e),
              λ q. subst (SumIs tasks links) (sym (its_delay c e) ∙ q) (sum_is tasks links (its_steps c e)),
            );
        short = rw said.same said.short;
        passed =
            λ e tasks links c runs allowed u recurs.
            rw (its_delay c e) (no_value_is_later_lem tasks links (its_steps c e) (one-id c) runs allowed u recurs);
      }

-- for every table and list
pub chains : Chains
chains =
    record {
      says = chain_says;
      no_value_is_later = no_value_is_later_lem;
      recurs = periodic_recurs;
      list_front = list-of_the_front;
      table_front = table-of_the_front;
    }
