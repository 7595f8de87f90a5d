-- `analysis::windows` meets its contract: the windows of the rows seen are kept, and the highest row without one. Assumes nothing.
use native.Mathlib.Omega.{arith}
use mathlib.Core.Path.{◌≡◌, sym, ◌∙◌}
use Rattle.model.specs.Bounds.{window}
use Rattle.cores.specs.Cores.{tasks_in}
use Rattle.analysis.proofs.Cored.{coming, as_many, at_row, window_in_lem}
use Rattle.analysis.proofs.Sought.{none_sought, kept_few, has_next, lacks_next, one_lacks, none_lacks}
use Rattle.analysis.proofs.windows.Goals.{in-Some, in-None}
use Rattle.analysis.proofs.windows.Goals as goal

pub loop-i-init : goal.loop-i-init
loop-i-init c = none_sought _ c.new-lengths.ensures

pub row_window-requires : goal.row_window-requires
row_window-requires c =
    let w = coming c.requires c.used_rows-row-items.ensures c.loop-i.i c.loop-i-test.true in
    rw c.used_asked-asked.ensures (at_row c.requires c.loop-i.i w.task w.place)

pub push-requires : goal.push-requires
push-requires c =
    (omega arith, omega (arith, kept_few c.loop-i.invariant, as_many c.requires c.used_rows-row-items.ensures))

pub loop-i-preserved : goal.loop-i-preserved
loop-i-preserved c =
    let s = c.loop-i.invariant in
    let w = coming c.requires c.used_rows-row-items.ensures c.loop-i.i c.loop-i-test.true in
    let e : c.row_window.result ≡ window (tasks_in c.args.c.now) w.task
    = rw (c.row_window.ensures, c.used_asked-asked.ensures) (window_in_lem (at_row c.requires c.loop-i.i w.task w.place)) in
    elim c.match-row_window.branch [
      | in-Some b ↦ has_next s w.task w.place (sym e ∙ b.in-Some.is) (rw b.lengths-is b.push.ensures.items) b.top-is
      | in-None b ↦
          lacks_next s w.task w.place (sym e ∙ b.in-None.is) w.row (rw b.lengths-is) (b.top-is ∙ b.higher_of-top.ensures)
    ]

pub returns-in-Some-top : goal.returns-in-Some-top
returns-in-Some-top c =
    one_lacks c.loop-i.invariant (omega (arith, as_many c.requires c.used_rows-row-items.ensures)) c.in-Some-top.is

pub returns-in-None-top : goal.returns-in-None-top
returns-in-None-top c =
    none_lacks c.loop-i.invariant (omega (arith, as_many c.requires c.used_rows-row-items.ensures)) c.in-None-top.is
