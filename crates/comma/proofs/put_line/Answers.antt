-- `comma::put_line` meets its contract: the fields, the times, then the LF. Assumes nothing.
use Prim.Native.Nat.{◌+◌, ◌≤◌}
use native.Mathlib.Omega.{arith}
use mathlib.Core.Path.{◌≡◌, ap}
use mathlib.Core.List.{[], ◌∷◌, ◌++◌, append_assoc}
use lib.ListN.{length, length-append}
use Rattle.text.specs.Text.{line_feed}
use Rattle.comma.proofs.LinePuts.{fields_piece, times_piece, line_pieces}
use Rattle.comma.proofs.put_line.Goals.{Start, After-put_numbers, After-put_numbers-2}
use Rattle.comma.proofs.put_line.Goals as goal

-- all of the line has room
room : (c : Start) → let a = c.args in
    length a.lines.now + (length (fields_piece a.row.now) + (length (times_piece a.times.now) + 1)) ≤ 11520
room c =
    let a = c.args in
    omega (
      arith,
      c.requires.room.room,
      ap length (line_pieces a.row.now a.times.now c.requires.some),
      length-append (fields_piece a.row.now) (times_piece a.times.now ++ (line_feed ∷ [])),
      length-append (times_piece a.times.now) (line_feed ∷ []),
    )

-- the fields are put
fields_put : (c : After-put_numbers) → c.put_numbers.new.self ≡ c.args.lines.now ++ fields_piece c.args.row.now
fields_put c = rw (c.put_numbers.ensures, c.from.ensures)

-- and the times
times_put : (c : After-put_numbers-2) → let a = c.args in
    c.put_numbers-2.new.self ≡ (a.lines.now ++ fields_piece a.row.now) ++ times_piece a.times.now
times_put c = rw (c.put_numbers-2.ensures, c.put_numbers.ensures, c.from.ensures)

pub put_numbers-requires : goal.put_numbers-requires
put_numbers-requires c =
    let all = room (goal.at.put_numbers-requires c).Start in
    rw c.from.ensures (omega arith, (omega arith, record { room = omega (arith, all) }))

pub put_numbers-requires-2 : goal.put_numbers-requires-2
put_numbers-requires-2 c =
    let at = goal.at.put_numbers-requires-2 c in
    let all = room at.Start in
    let put = fields_put at.After-put_numbers in
    (omega arith, (c.requires.some, record { room = rw (put, length-append) (omega (arith, all)) }))

pub put-requires : goal.put-requires
put-requires c =
    let at = goal.at.put-requires c in
    let all = room at.Start in
    (omega arith, record { room = rw (times_put at.After-put_numbers-2, length-append, length-append) (omega (arith, all)) })

pub returns : goal.returns
returns c =
    let put = times_put (goal.at.returns c).After-put_numbers-2 in
    rw (c.put.ensures, put, line_pieces c.args.row.now c.args.times.now c.requires.some) (simp append_assoc)
