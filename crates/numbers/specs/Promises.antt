-- Inner: how a number as the definition reads it stands in memory.
use Rattle.std.specs.Prelude.{ℕ, Result, Ok, Err}
use Rattle.numbers.specs.Numbers as N
use Rattle.numbers.specs.declared.Read.{Read}
use Rattle.numbers.specs.declared.NumberFault.{NumberFault}
use Rattle.numbers.specs.declared.NumberFault.TheVariants as F

abbrev pub as_read : N.Number → Result (Read ℕ) NumberFault
as_read (N.Got value next) = Ok (record { value = value; next = next })
as_read N.EndsEarly = Err F.EndsEarly
as_read N.Malformed = Err F.Malformed
