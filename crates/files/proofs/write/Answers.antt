-- `files::write` meets its contract: a fault, or the file where it fits. Assumes nothing.
use Prim.Native.Nat.{ℕ}
use borrow.Author.Tests.{lt-ltb, le-ltb}
use mathlib.Core.Path.{refl}
use mathlib.Core.Logic.{⊎_elim}
use mathlib.Core.List.{List}
use lib.ListN.{length}
use Rattle.std.specs.Prelude.{Result}
use Rattle.lists.proofs.Tests.{either}
use Rattle.table.specs.declared.Verdict.{Verdict}
use Rattle.table.specs.declared.Verdict.TheVariants.{Good}
use Rattle.table.specs.Written.{written_by, Writes}
use Rattle.table.proofs.Writes.{refuses_room, writes-all, nothing_against}
use Rattle.files.specs.Promises.{Fitted}
use Rattle.files.proofs.Steps.{writes_refused}
use Rattle.files.proofs.write.Goals.{in-Ok, in-Err}
use Rattle.files.proofs.write.Goals as goal

-- bytes that are written where they fit
fitted-writes : (new out : List ℕ) {r : Result ℕ Verdict} {out' : List ℕ} → Fitted new out r out' → Writes Good new out (written_by r) out'
fitted-writes new out f =
    ⊎_elim
    (λ h. record {
      answer = rw (f.answer, lt-ltb (length out) (length new) h) (refuses_room Good new out refl _ refl h).answer;
      bytes = f.bytes;
    })
    (λ h. record {
      answer = rw (f.answer, le-ltb (length out) (length new) h) (writes-all Good new out refl _ refl h _ refl).answer;
      bytes = f.bytes;
    })
    (either (length out) (length new))

pub returns : goal.returns
returns c =
    elim c.match-try_from.branch [
      | in-Ok w ↦
          rw (c.from.ensures, w.out-is, w.from-is, ← w.in-Ok.ensures.1)
          (nothing_against _ _ _ w.in-Ok.good.good (fitted-writes _ _ w.put_file.ensures))
      | in-Err w ↦ rw (c.from.ensures, w.out-is, w.from-is) (writes_refused _ _ _ w.in-Err.ensures)
    ]
