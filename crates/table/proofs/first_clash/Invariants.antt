-- `table::first_clash` meets its contract. No row before row i clashes, nor row i with the rows before this earlier one. Assumes nothing.
use Rattle.std.specs.Prelude.{◌≡◌, Bool, None}
use Rattle.table.specs.declared.Row.{Row}
use Rattle.table.specs.Promises.{Computes, first_of}
use Rattle.table.proofs.Clashes.{first_from, Inner}
use Rattle.table.proofs.first_clash.Given as goal

abbrev pub invariant-loop-earlier : goal.invariant-loop-earlier
invariant-loop-earlier g l =
    record {
      none : l.first ≡ None;
      apart : (f : Row → Row → Bool) → Computes g.F.Fn l.breaks f → Inner (f l.row) l.earlier-items l.earlier-index;
    }

abbrev pub invariant-rows : goal.invariant-rows
invariant-rows g l =
    record {
      none : l.first ≡ None;
      apart : (f : Row → Row → Bool) → Computes g.F.Fn l.breaks f → first_of f l.rows ≡ first_from f l.rows l.i;
    }
