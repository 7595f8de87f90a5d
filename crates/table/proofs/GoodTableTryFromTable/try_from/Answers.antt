-- `table::GoodTable::try_from` makes only tables that nothing stands against. Assumes nothing.
use Rattle.std.proofs.Common.{rules}
use Rattle.table.proofs.Codes.{good-code, passed}
use Rattle.table.proofs.Rows.{length_mapped}
use Rattle.table.proofs.GoodTableTryFromTable.try_from.Goals as goal

pub invariant_of-result : goal.invariant_of-result
invariant_of-result c =
    record { good = good-code _ (passed _ c.in_ok-check.ensures); all_rows = search (rules, length_mapped); all_times = search rules }
