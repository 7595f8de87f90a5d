-- Laws of writing into lent room: what a good and a refused writing are, how code comes to each, and that nothing else is allowed.
-- Assumes nothing.
use Prim.Native.Nat.{ℕ, ◌≤◌, ◌<◌}
use native.Mathlib.Omega.{arith}
use borrow.Author.Tests.{lt-ltb, le-ltb}
use mathlib.Core.Path.{◌≡◌, refl, sym, ap, ◌∙◌}
use mathlib.Core.Bool.{false}
use mathlib.Core.List.{List, ◌++◌}
use lib.ListN.{length, drop, length-append}
use lib.Dec.{ltb}
use Rattle.lists.specs.Lists.{pick, over}
use Rattle.lists.proofs.Tests.{by_test}
use Rattle.table.specs.declared.Verdict.{Verdict}
use Rattle.table.specs.declared.Verdict.TheVariants.{Good, NoRoom}
use Rattle.table.specs.declared.Written.{Written}
use Rattle.table.specs.Verdicts.{code_of, good}
use Rattle.table.specs.Written.{verdict_on, none_written, answer_on, bytes_left, Writes}
use Rattle.table.proofs.Codes.{is_fault, or-good, first_good, fault_stays}

module _ (fault : Verdict) (new out : List ℕ) where
  -- ---- how code comes to each

  -- a refusal by its verdict
  refuses : (v : Verdict) → verdict_on fault new (length out) ≡ v → good v ≡ false → Writes fault new out (none_written v) out
  unfolding answer_on bytes_left
  refuses v e f = record { answer = rw (e, f); bytes = rw (e, f) }

  -- where something stands against it, and its code k was asked for
  pub refuses_fault : (v : Verdict) (k : ℕ) → v ≡ fault → k ≡ code_of v → (k ≡ 0 → ⊥) → Writes fault new out (none_written v) out
  unfolding verdict_on
  refuses_fault v k same code h = refuses v (sym (fault_stays same code _ h)) (is_fault v (λ e. h (code ∙ e)))

  -- where nothing does: the verdict goes by the room
  by_room : code_of fault ≡ 0 → (room : ℕ) → verdict_on fault new room ≡ pick (ltb room (length new)) (NoRoom (length new)) Good
  unfolding verdict_on
  by_room fine room = or-good fault _ fine

  -- where there is no room for the bytes
  pub refuses_room : code_of fault ≡ 0 → (size : ℕ) → length new ≡ size → length out < size
      → Writes fault new out (none_written (NoRoom size)) out
  refuses_room fine size same h =
      refuses (NoRoom size) (by_room fine (length out) ∙ rw (same, lt-ltb (length out) size h)) (unfold good in refl)

  -- there is room enough
  pub room-good : code_of fault ≡ 0 → length new ≤ length out → verdict_on fault new (length out) ≡ Good
  room-good fine h = by_room fine (length out) ∙ rw (le-ltb (length out) (length new) h)

  -- so the bytes are written
  pub writes-all : code_of fault ≡ 0 → (size : ℕ) → length new ≡ size → size ≤ length out
      → (out' : List ℕ) → out' ≡ over new out
      → Writes fault new out (record { verdict = Good; count = size }) out'
  unfolding answer_on bytes_left good
  writes-all fine size same h out' e =
      let said : verdict_on fault new (length out) ≡ Good = room-good fine (rw same h) in
      record { answer = rw (said, same); bytes = e ∙ rw said }

  -- so they are where they were written with nothing against it
  pub nothing_against : code_of fault ≡ 0 → {r : Written} {out' : List ℕ} → Writes Good new out r out' → Writes fault new out r out'
  unfolding answer_on bytes_left verdict_on
  nothing_against fine w =
      let same : verdict_on fault new (length out) ≡ verdict_on Good new (length out) = or-good fault _ fine ∙ sym (or-good Good _ refl) in
      record { answer = w.answer ∙ rw same; bytes = w.bytes ∙ rw same }

  -- ---- what each is

  module _ (r : Written) (out' : List ℕ) (w : Writes fault new out r out') where
    -- the verdict
    pub verdict_said : verdict_on fault new (length out) ≡ r.verdict
    unfolding answer_on
    verdict_said = sym (ap (λ (x : Written). x.verdict) w.answer)

    -- a good writing: nothing stood against it
    pub wrote_fine : r.verdict ≡ Good → code_of fault ≡ 0
    unfolding verdict_on
    wrote_fine e = first_good fault _ (ap code_of (verdict_said ∙ e))

    -- all bytes were counted
    pub wrote_count : r.verdict ≡ Good → r.count ≡ length new
    unfolding answer_on good
    wrote_count e = ap (λ (x : Written). x.count) w.answer ∙ rw (verdict_said ∙ e)

    -- and written
    pub wrote_bytes : r.verdict ≡ Good → out' ≡ over new out
    unfolding bytes_left good
    wrote_bytes e = w.bytes ∙ rw (verdict_said ∙ e)

    -- what was written lies within the lent bytes
    pub count_within : r.count ≤ length out'
    unfolding answer_on bytes_left over
    count_within =
        by_test (good (verdict_on fault new (length out)))
        (λ e.
        let count : r.count ≡ length new = ap (λ (x : Written). x.count) w.answer ∙ rw e in
        let left : out' ≡ new ++ drop (length new) out = w.bytes ∙ rw e in
        omega (arith, ap length left, length-append new (drop (length new) out)))
        (λ e. let none : r.count ≡ 0 = ap (λ (x : Written). x.count) w.answer ∙ rw e in omega arith)

    -- ---- nothing else is allowed

    -- one answer
    pub answers_agree : (r₂ : Written) (out₂ : List ℕ) → Writes fault new out r₂ out₂ → r ≡ r₂
    answers_agree r₂ out₂ v = w.answer ∙ sym v.answer

    -- and one content
    pub bytes_agree : (r₂ : Written) (out₂ : List ℕ) → Writes fault new out r₂ out₂ → out' ≡ out₂
    bytes_agree r₂ out₂ v = w.bytes ∙ sym v.bytes
