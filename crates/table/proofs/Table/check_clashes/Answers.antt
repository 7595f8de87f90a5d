-- `table::Table::check_clashes` meets its contract: each rule by the first row that breaks it. Assumes nothing.
use borrow.Author.Rules.{rules}
use mathlib.Core.Path.{◌≡◌}
use Rattle.table.specs.Rules as R
use Rattle.table.specs.Verdicts.{good, judged, ◌or_else◌}
use Rattle.table.specs.Memory.{used_rows}
use Rattle.table.specs.Clash.{breaks, clash_of}
use Rattle.table.specs.Promises.{first_of}
use Rattle.table.proofs.Clashes.{verdict_by, clash-by}
use Rattle.table.proofs.Table.check_clashes.Goals.{After-first_clash}
use Rattle.table.proofs.Table.check_clashes.Goals as goal

-- the rules' verdicts, 4 by the first row that has it
by_id : (c : After-first_clash) → let rows = c.used_rows-rows.result.now in
    clash_of (used_rows c.args.self.now)
    ≡ verdict_by R.SameId c.first_clash.result
    or_else (verdict_by R.SamePriority (first_of (breaks R.SamePriority) rows)
    or_else verdict_by R.KindsCrossed (first_of (breaks R.KindsCrossed) rows))
unfolding breaks
by_id c =
    rw (← c.used_rows-rows.ensures, c.first_clash.ensures (breaks R.SameId) (λ row earlier r k. search rules))
    (clash-by c.used_rows-rows.result.now)

pub returns-in-Some : goal.returns-in-Some
unfolding judged good ◌or_else◌
returns-in-Some c = rw (by_id (goal.at.returns-in-Some c).After-first_clash, c.in-Some.is)

pub returns-in-Some-twice : goal.returns-in-Some-twice
unfolding judged good ◌or_else◌
returns-in-Some-twice c =
    rw (
      by_id (goal.at.returns-in-Some-twice c).After-first_clash,
      c.in_default.is,
      ← c.priority_clashes-first.ensures.twice,
      c.in-Some-twice.is,
    )

pub returns-in-Some-crossed : goal.returns-in-Some-crossed
unfolding judged good ◌or_else◌
returns-in-Some-crossed c =
    let first = c.priority_clashes-first.ensures in
    rw (
      by_id (goal.at.returns-in-Some-crossed c).After-first_clash,
      c.in_default.is,
      ← first.twice,
      c.in_default-twice.is,
      ← first.crossed c.in_default-twice.is,
      c.in-Some-crossed.is,
    )

pub returns : goal.returns
unfolding judged good ◌or_else◌
returns c =
    let first = c.priority_clashes-first.ensures in
    rw (
      by_id (goal.at.returns c).After-first_clash,
      c.in_default.is,
      ← first.twice,
      c.in_default-twice.is,
      ← first.crossed c.in_default-twice.is,
      c.in_default-crossed.is,
    )
