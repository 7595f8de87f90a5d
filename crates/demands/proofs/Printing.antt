-- Printing answers and leaves what is said of it. Assumes nothing.
use Prim.Native.Nat.{ℕ, ◌≤◌, ◌<◌}
use mathlib.Core.Path.{refl, ap}
use mathlib.Core.List.{List}
use lib.ListN.{length}
use Rattle.table.specs.declared.Verdict.TheVariants.{Good}
use Rattle.table.specs.declared.Written.{Written}
use Rattle.table.proofs.Writes.{refuses_room, writes-all, answers_agree, bytes_agree}
use Rattle.sheet.specs.Sheet.{sheet_text, Prints}
use Rattle.demands.specs.Printing.{TooShort, InFull, Printing}

module _ (s out : List ℕ) (r : Written) (out' : List ℕ) (p : Prints s out r out') where
  -- in too short a room
  too_short : length out < length (sheet_text s) → TooShort (sheet_text s) out r out'
  too_short h =
      let w = refuses_room Good (sheet_text s) out refl _ refl h in
      let answer = answers_agree Good (sheet_text s) out r out' p _ _ w in
      (rw answer (refl, refl), ap (λ (x : Written). x.count) answer, bytes_agree Good (sheet_text s) out r out' p _ _ w)

  -- in enough
  in_full : length (sheet_text s) ≤ length out → InFull (sheet_text s) out r out'
  in_full h =
      let w = writes-all Good (sheet_text s) out refl _ refl h _ refl in
      let answer = answers_agree Good (sheet_text s) out r out' p _ _ w in
      (rw answer (refl, refl), ap (λ (x : Written). x.count) answer, bytes_agree Good (sheet_text s) out r out' p _ _ w)

-- both
pub printing : Printing
printing = record { short = too_short; enough = in_full }
