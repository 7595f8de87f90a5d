-- One core's bounds in its room, from what analysis gives for it. Assumes nothing.
use Prim.Native.Nat.{ℕ, ◌≤◌, ◌<◌}
use native.Mathlib.Omega.{arith}
use mathlib.Core.Path.{◌≡◌, sym, ap, ◌∙◌}
use mathlib.Core.List.{List, []}
use lib.ListN.{length, get_or, set, get_or-append}
use lib.Seq.{get_or-set_same, get_or-set_other}
use Rattle.std.specs.Prelude.{Result, Ok, Err}
use Rattle.lists.specs.Lists.{over}
use Rattle.model.specs.Task.{Task}
use Rattle.model.specs.Bounds.{on_core}
use Rattle.table.specs.declared.Table.{Table}
use Rattle.table.specs.declared.Verdict.{Verdict}
use Rattle.table.specs.declared.Verdict.TheVariants.{Good}
use Rattle.table.specs.Verdicts.{code_of, good}
use Rattle.table.specs.Memory.{tasks_of}
use Rattle.table.proofs.Codes.{good-code}
use Rattle.table.proofs.GoodCore.{core-fits}
use Rattle.analysis.specs.declared.Analysed.{Analysed}
use Rattle.analysis.specs.Analysis.{needed, core_bounds, said_of, writes, room_after, Gives}
use Rattle.analysis.specs.Promises.{AnalysesGood}
use Rattle.analysis.proofs.Given.{said_is, room_written, gives_same, answered-verdict}
use Rattle.analysis.proofs.BoundsPut.{bounds-length}
use Rattle.chains.specs.declared.About.TheVariants as A
use Rattle.chains.specs.declared.Refusal.{Refusal}
use Rattle.chains.proofs.Rows.{Sound}
use Rattle.chains.specs.Promises.{room_of, Filled, said_core, Works}
use Rattle.chains.proofs.CoresSaid.{said-taken, said-not_good}

-- with code 0 analysis leaves the bounds, one for each part
after-good : (v : Verdict) (rows : List Task) (room : List ℕ) → code_of v ≡ 0 → (k : ℕ) → k < needed rows
    → get_or (room_after v rows room) k 0 ≡ get_or (core_bounds rows) k 0
unfolding over needed core_bounds
after-good v rows room e k h =
    rw (room_written v rows room (unfold writes in rw e))
    (get_or-append (core_bounds rows) _ 0 k (omega (arith, bounds-length rows rows)))

module _ {t : Table} (s : Sound t) where
  -- each core's bounds have room
  pub needed_few : (core : ℕ) → needed (on_core core (tasks_of t)) ≤ 1024
  unfolding needed
  needed_few core = core-fits t s.rows s.times s.fine core

  module _ (core : ℕ) (small : core ≤ 3) (rooms : List (List ℕ)) (four : length rooms ≡ 4) (long : length (room_of rooms core) ≡ 1024)
      {a : Analysed} {room : List ℕ} (given : AnalysesGood t core (room_of rooms core) a room) where
    -- the core's room becomes as what is said of it gives
    gives : Gives (said_of (tasks_of t) core) (on_core core (tasks_of t)) (room_of rooms core) a room
    gives =
        let rows = on_core core (tasks_of t) in
        gives_same
        (said_is core rows (length (room_of rooms core)) small (omega (arith, long, needed_few core))
        ∙ sym (said_is core rows (needed rows) small (omega arith)))
        given

    -- the verdict is that
    pub verdict : a.verdict ≡ said_of (tasks_of t) core
    verdict = ap (λ (x : Analysed). x.verdict) gives.answer ∙ answered-verdict (said_of (tasks_of t) core) (on_core core (tasks_of t))

    -- where it is good the room has the core's bounds
    own-bounds : code_of (said_of (tasks_of t) core) ≡ 0 → Filled (tasks_of t) (set rooms core room) core
    own-bounds e =
        record {
          bound = λ k h.
              rw (get_or-set_same rooms core room [] (omega (arith, four)), gives.left)
              (after-good (said_of (tasks_of t) core) (on_core core (tasks_of t)) (room_of rooms core) e k h);
        }

    -- the core is worked out, and the other rooms stay
    works : {r : Result (Unit {0}) Refusal} → r ≡ said_core core a.verdict → Works (tasks_of t) core rooms r (set rooms core room)
    works {r} e =
        let said : r ≡ said_core core (said_of (tasks_of t) core) = e ∙ ap (said_core core) verdict in
        record {
          said = said;
          filled = λ z. own-bounds (good-code _ (said-taken core _ (sym z ∙ said)));
          others = λ c n f. record { bound = λ k h. rw (get_or-set_other rooms core c room [] n) (f.bound k h) };
        }

    -- and good
    pub works_good : a.verdict ≡ Good → Works (tasks_of t) core rooms (Ok tt) (set rooms core room)
    unfolding good
    works_good e = works (rw e)

    -- or refused
    pub works_bad : (a.verdict ≡ Good → ⊥)
        → Works (tasks_of t) core rooms (Err (record { about = A.Core core; verdict = a.verdict })) (set rooms core room)
    works_bad h = works (said-not_good core a.verdict h)
