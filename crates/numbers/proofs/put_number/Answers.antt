-- `numbers::put_number` meets its contract. The invariant: what is still to be written, put where it goes, is the whole. Assumes nothing.
use Prim.Native.Nat.{ℕ, ◌+◌, ◌/◌, ◌%◌, ◌≤◌, ◌<◌}
use native.Mathlib.Numerals.{add-one}
use native.Mathlib.Omega.{arith}
use mathlib.Core.Path.{◌≡◌, sym, ap, ◌∙◌}
use mathlib.Core.List.{List}
use lib.ListN.{length, set, length-set}
use lib.Seq.{sets}
use Rattle.numbers.specs.Numbers.{Put}
use Rattle.numbers.proofs.Laws.{encode_one, encode_more}
use Rattle.numbers.proofs.put_number.Invariants.{Writing}
use Rattle.numbers.proofs.put_number.Goals as goal

module _ {out₀ : List ℕ} {v : ℕ} {out : List ℕ} {rest p : ℕ} (w : Writing out₀ v out rest p) (out' : List ℕ) where
  turn : 128 ≤ rest → out' ≡ set out p (128 + rest % 128) → Writing out₀ v out' (rest / 128) (p + 1)
  turn h e =
      let more = encode_more rest h (omega (arith, w.few)) in
      rw e
      record {
        few = omega (arith, w.few);
        size = omega (arith, w.size, ap length more);
        long = length-set out p (128 + rest % 128) ∙ w.long;
        same = w.same ∙ ap (sets out p) more ∙ rw add-one;
      }

  done : rest < 128 → out' ≡ set out p rest → Put v out₀ (p + 1) out'
  done h e =
      let one = encode_one rest h in
      record { size = omega (arith, w.size, ap length one); bytes = e ∙ sym (w.same ∙ ap (sets out p) one) }

pub loop-rest-preserved : goal.loop-rest-preserved
loop-rest-preserved c =
    turn c.loop-rest.invariant _ c.loop-rest-test.true c.store.ensures

pub returns : goal.returns
returns c =
    done c.loop-rest.invariant _ c.loop-rest-test.false c.store-2.ensures
