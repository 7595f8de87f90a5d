-- `cores::put_loads` meets its contract. The invariant: the loads so far stand there, and those of the other rows wanted follow. Assumes
-- nothing.
use Rattle.std.proofs.Common.{◌≡◌, ◌++◌, Bool, true, false, List, ◌∷◌, ℕ, ◌+◌, ◌≤◌, ◌<◌}
use Rattle.std.proofs.Common.{length, drop, sym, ap, ◌∙◌, arith, length-append, append-nil}
use Rattle.std.proofs.Math.ListN.{drop_of_length-le}
use Rattle.std.proofs.Math.Numerals.{add-one}
use Rattle.std.proofs.Math.Seq.{drop-cons, append_snoc}
use Rattle.std.proofs.lemmas.Fn.{says_at}
use Rattle.lists.specs.Lists.{keep}
use Rattle.bounds.specs.declared.Load.{Load}
use Rattle.cores.specs.declared.Asked.{Asked}
use Rattle.cores.specs.Cores.{asked_nothing}
use Rattle.cores.specs.Promises.{wanted_loads, asked_at}
use Rattle.cores.proofs.put_loads.Goals.{then-wanted, else-wanted}
use Rattle.cores.proofs.put_loads.Goals as goal

module _ (p : Asked → Bool) (rows : List Asked) (i : ℕ) (h : i < length rows) where
  -- the row that is looked at is the next of those left
  next : drop i rows ≡ asked_at rows i ∷ drop (i + 1) rows
  next = rw add-one (drop-cons rows i asked_nothing h)

  -- where it is wanted its load is the next
  load_next : p (asked_at rows i) ≡ true → wanted_loads p (drop i rows) ≡ (asked_at rows i).load ∷ wanted_loads p (drop (i + 1) rows)
  unfolding keep
  load_next e = rw (next, e)

  -- any other is passed over
  row_passed : p (asked_at rows i) ≡ false → wanted_loads p (drop i rows) ≡ wanted_loads p (drop (i + 1) rows)
  unfolding keep
  row_passed e = rw (next, e)

  -- so there is room for its load where there was room for all
  room_next : (old loads : List Load) → length old + length (wanted_loads p rows) ≤ 64
      → old ++ wanted_loads p rows ≡ loads ++ wanted_loads p (drop i rows) → p (asked_at rows i) ≡ true → length loads < 64
  room_next old loads room all e = omega (arith, ap length all, length-append {A = Load}, ap length (load_next e))

pub push-requires : goal.push-requires
push-requires g c =
    let (p, computes, room) = c.requires.room in
    let wanted = sym (computes _ _ (says_at g.F.Fn c.wanted.ensures c.if-wanted.true)) in
    (omega arith, room_next p c.args.asked.now c.loop-a.a-index c.loop-a-test.true _ _ room (c.loop-a.invariant p computes) wanted)

pub loop-a-preserved : goal.loop-a-preserved
loop-a-preserved g c = λ p computes.
    let rows = c.args.asked.now in
    let h = c.loop-a-test.true in
    elim c.if-wanted.branch [
      | then-wanted w ↦
          rw (w.loads-is, w.push.ensures.items)
          (c.loop-a.invariant p computes
          ∙ ap (◌++◌ c.loop-a.loads.items) (load_next p rows _ h (sym (computes _ _ (says_at g.F.Fn c.wanted.ensures w.if-wanted.true))))
          ∙ sym (append_snoc c.loop-a.loads.items _ _))
      | else-wanted w ↦
          rw w.loads-is
          (c.loop-a.invariant p computes
          ∙ ap (◌++◌ c.loop-a.loads.items) (row_passed p rows _ h (sym (computes _ _ (says_at g.F.Fn c.wanted.ensures w.if-wanted.false)))))
    ]

pub returns : goal.returns
unfolding keep
returns g c = λ p computes.
    sym (c.loop-a.invariant p computes ∙ rw (drop_of_length-le c.args.asked.now c.loop-a-test.false) (append-nil c.loop-a.loads.items))
