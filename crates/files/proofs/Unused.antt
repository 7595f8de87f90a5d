-- What stands in the unused rows and times has no say in writing. Assumes nothing.
use mathlib.Core.Path.{◌≡◌, ap}
use Rattle.table.specs.declared.Table.{Table}
use Rattle.table.proofs.Stored.{same_tasks, same_fault}
use Rattle.files.specs.Writing.{encode_file, file_of}
use Rattle.files.specs.RoundTrips.{Alike, UnusedHasNoSay}

module _ (t u : Table) (same : Alike t u) where
  -- the same bytes to write
  same_file : file_of t ≡ file_of u
  unfolding file_of
  same_file = ap encode_file (same_tasks t u same.count same.rows same.times)

-- so the same answer, and the same bytes after
pub unused_has_no_say : UnusedHasNoSay
unused_has_no_say t u same out =
    let fault = same_fault t u same.count same.rows same.times in
    let file = same_file t u same in
    (rw (fault, file), rw (fault, file))
