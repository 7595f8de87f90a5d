-- `sheet::put_sheet` meets its contract: a refused file has its line, a good one its cores. Assumes nothing.
use Prim.Native.Nat.{ℕ, ◌<◌, ◌^◌}
use native.Mathlib.Omega.{arith}
use borrow.Author.Rules.{rules}
use mathlib.Core.Path.{◌≡◌, sym, ap}
use mathlib.Core.List.{List, []}
use lib.ListN.{length}
use Rattle.numbers.specs.Numbers.{Bytes}
use Rattle.sheet.specs.Sheet.{sheet_text}
use Rattle.text.specs.Promises.{Fits}
use Rattle.text.proofs.Fitting.{fits_as}
use Rattle.sheet.proofs.Files.{refused-text, good_text_lem, text_is_short}
use Rattle.sheet.proofs.put_sheet.Goals as goal

-- on a page with nothing on it the text has room
fits : (s : List ℕ) {page : List ℕ} → Bytes s → length s < 2 ^ 64 → page ≡ [] → Fits (sheet_text s) page 29842
fits s bytes few new = record { room = omega (arith, text_is_short s bytes few, ap length new) }

pub put_cores-requires : goal.put_cores-requires
put_cores-requires c =
    fits_as (good_text_lem _ _ c.in-Ok.ensures) (fits _ (λ i. omega (arith, c.type_inv.bytes i)) (search rules) c.requires)

pub put_file_line-requires : goal.put_file_line-requires
put_file_line-requires c =
    fits_as (refused-text _ _ c.in-Err.ensures) (fits _ (λ i. omega (arith, c.type_inv.bytes i)) (search rules) c.requires)

pub returns-in-Ok : goal.returns-in-Ok
returns-in-Ok c = rw (c.put_cores.ensures, c.requires) (sym (good_text_lem _ _ c.in-Ok.ensures))

pub returns-in-Err : goal.returns-in-Err
returns-in-Err c = rw (c.put_file_line.ensures, c.requires) (sym (refused-text _ _ c.in-Err.ensures))
