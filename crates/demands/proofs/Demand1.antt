-- Demand 1 holds.
use Prim.Native.Nat.{ℕ}
use mathlib.Core.Path.{refl}
use mathlib.Core.List.{List}
use lib.ListN.{length}
use Rattle.files.specs.Reading.{decode}
use Rattle.analysis.specs.Analysis.{answered, room_after, Gives, file_said, file_rows}
use Rattle.demands.specs.Demand1.{Answered, Demand1}
use Rattle.demands.proofs.Answer.{answer_says, read_says}
use Rattle.demands.proofs.Unique.{gives_one}

-- every file, core number and lent room gets one answer
one_answer : (s : List ℕ) (core : ℕ) (room : List ℕ) → Answered s core room
one_answer s core room =
    let v = file_said (decode s) core (length room) in
    let rows = file_rows (decode s) core in
    let g : Gives v rows room (answered v rows) (room_after v rows room) = record { answer = refl; left = refl } in
    record {
      answer = answered v rows;
      left = room_after v rows room;
      given = g;
      only = λ r room' a. gives_one v rows room r (answered v rows) room' (room_after v rows room) a g;
    }

-- demand 1
pub demand1 : Demand1
demand1 = record { one = one_answer; says = answer_says; reads = read_says }
