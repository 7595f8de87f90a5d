-- What is said of a core that has room, an answer with nothing written, and one with all bounds written. Assumes nothing.
use Prim.Native.Nat.{ℕ, ◌≤◌}
use borrow.Author.Tests.{le-ltb, ne_eqb}
use mathlib.Core.Path.{◌≡◌, subst}
use mathlib.Core.Bool.{true, false}
use mathlib.Core.List.{List}
use Rattle.lists.specs.Lists.{over}
use Rattle.lists.proofs.Tests.{by_test}
use Rattle.model.specs.Task.{Task}
use Rattle.model.specs.Bounds.{core_verdict}
use Rattle.table.specs.declared.Verdict.{Verdict}
use Rattle.table.specs.Verdicts.{code_of}
use Rattle.table.proofs.ReadingCodes.{RefusedReading, refused-not_0, refused-not_12}
use Rattle.analysis.specs.declared.Analysed.{Analysed}
use Rattle.analysis.specs.Analysis.{needed, core_bounds, named, room_said, core_said, writes, refusal, answered, room_after, Gives}

-- with room for the bounds: good, or code 11 or 12
pub room_said_lem : (rows : List Task) (room : ℕ) → needed rows ≤ room → room_said rows room ≡ named (core_verdict rows)
unfolding room_said
room_said_lem rows room fits = rw (le-ltb room (needed rows) fits)

-- so it is on each of the four cores
pub said_is : (core : ℕ) (rows : List Task) (room : ℕ) → core ≤ 3 → needed rows ≤ room
    → core_said core rows room ≡ named (core_verdict rows)
unfolding core_said
said_is core rows room h fits = rw (le-ltb 3 core h) (room_said_lem rows room fits)

-- where bounds are written, they stand in front
pub room_written : (v : Verdict) (rows : List Task) (room : List ℕ) → writes v ≡ true
    → room_after v rows room ≡ over (core_bounds rows) room
unfolding room_after
room_written v rows room w = rw w

-- a refused reading writes nothing
pub reading-writes_none : (v : Verdict) → RefusedReading v → writes v ≡ false
unfolding writes
reading-writes_none v r = rw (ne_eqb (code_of v) 0 (refused-not_0 v r), ne_eqb (code_of v) 12 (refused-not_12 v r))

module _ (said v : Verdict) (rows : List Task) (room : List ℕ) (same : said ≡ v) where
  -- nothing is written
  pub gives_none : writes v ≡ false → {r : Analysed} → r ≡ refusal v → Gives said rows room r room
  unfolding answered room_after
  gives_none w e = record { answer = rw (same, w) e; left = rw (same, w) }

  -- all bounds are written
  pub gives_all : writes v ≡ true → (count : ℕ) (room' : List ℕ) → count ≡ needed rows → room' ≡ over (core_bounds rows) room
      → Gives said rows room (record { verdict = v; count = count }) room'
  unfolding answered room_after
  gives_all w count room' e f = record { answer = rw (same, w, e); left = rw (same, w) f }

-- the same said
pub gives_same : {v w : Verdict} {rows : List Task} {room room' : List ℕ} {r : Analysed} → v ≡ w → Gives v rows room r room'
    → Gives w rows room r room'
gives_same {rows = rows} {room = room} {room' = room'} {r = r} e g = subst (λ (x : Verdict). Gives x rows room r room') e g

-- an answer's verdict is what is said
pub answered-verdict : (v : Verdict) (rows : List Task) → (answered v rows).verdict ≡ v
unfolding answered
answered-verdict v rows = by_test (writes v) (λ e. rw e) (λ e. rw e)
