-- A file whose wanted numbers end by some offset at the latest is judged by its front, three bytes longer. Assumes nothing.
use Prim.Native.Nat.{ℕ, ◌+◌, ◌-◌, ◌≤◌, ◌<◌}
use native.Mathlib.Omega.{arith}
use borrow.Author.Tests.{lt-ltb}
use mathlib.Core.Path.{◌≡◌, refl, sym, ap, ◌∙◌}
use mathlib.Core.Logic.{⊎_elim}
use mathlib.Core.Bool.{true}
use mathlib.Core.List.{List, [], ◌∷◌, ◌++◌}
use lib.ListN.{length, take, drop, length-drop}
use lib.Seq.{take_all, length-take-le}
use lib.Dec.{ltb}
use Rattle.lists.specs.Lists.{total}
use Rattle.lists.proofs.Fronts.{drop-front}
use Rattle.lists.proofs.Tests.{either}
use Rattle.numbers.specs.Numbers.{Bytes, after, groups, number_at}
use Rattle.numbers.specs.Numbers.{Number}
use Rattle.numbers.specs.Numbers as N
use Rattle.numbers.proofs.Laws.{groups-front, groups_enough, encode_some}
use Rattle.numbers.proofs.Sizes.{longer}
use Rattle.table.specs.declared.Wanted.{Wanted}
use Rattle.fields.specs.Stepping.{Step, stop, go, ◌then◌, asked, field_at, fields_at}
use Rattle.fields.proofs.Sizes.{bytes_of, short}
use Rattle.fields.proofs.Taken.{field-read, in_file, taken_all}

-- steps that agree, and go on alike
pub then_same : {A B : Type 0} (x y : Step A) (f g : A → ℕ → Step B) → x ≡ y → ((a : A) (n : ℕ) → x ≡ go a n → f a n ≡ g a n)
    → (x then f) ≡ (y then g)
unfolding ◌then◌
then_same (stop v) y f g e h = rw (← e)
then_same (go a n) y f g e h = rw (← e) (h a n refl)

-- the front of a file whose numbers end by the offset `most`: a faulty number that begins before it has its four bytes
abbrev pub front : ℕ → List ℕ → List ℕ
front most s = take (most + 3) s

-- a file of bytes, no shorter than its front
pub record Long (most : ℕ) (s : List ℕ) : Type 0 where
  pub bytes : Bytes s
  pub long : most + 3 ≤ length s

module _ {most : ℕ} {s : List ℕ} (file : Long most s) where
  -- four bytes are there to look at
  number_same : (at : ℕ) → at < most → number_at s at ≡ number_at (front most s) at
  unfolding number_at
  number_same at h = by (most - (at + 1)) (omega arith)
    where
      by : (rest : ℕ) → most + 3 ≡ at + (4 + rest)
          → after 0 1 at (groups true 4 (drop at s)) ≡ after 0 1 at (groups true 4 (drop at (front most s)))
      by rest all =
          let cut = ap (λ (n : ℕ). drop at (take n s)) all ∙ drop-front at (4 + rest) s in
          ap (after 0 1 at) (sym (ap (groups true 4) cut ∙ groups-front true 4 rest (drop at s)))

  -- so a number does not end early
  not_early : (at : ℕ) → at < most → number_at s at ≡ N.EndsEarly → ⊥
  unfolding number_at
  not_early at h e = by (groups true 4 (drop at s)) refl e
    where
      by : (x : Number) → groups true 4 (drop at s) ≡ x → after 0 1 at x ≡ N.EndsEarly → ⊥
      by (N.Got v n) q f = let w : ◌≡◌ {A = ℕ} 0 1 = cc in omega arith
      by N.EndsEarly q f = groups_enough true 4 (drop at s) (rw length-drop (omega (arith, file.long))) q
      by N.Malformed q f = let w : ◌≡◌ {A = ℕ} 0 1 = cc in omega arith

  -- a wanted number is read alike
  pub field_same : (w : Wanted) (at : ℕ) → at < most → field_at s w at ≡ field_at (front most s) w at
  unfolding field_at asked
  field_same w at h = by (number_at s at) refl
    where
      by : (x : Number) → number_at s at ≡ x → asked w s at (number_at s at) ≡ asked w (front most s) at (number_at (front most s) at)
      by (N.Got v n) q = rw (← number_same at h, q)
      by N.EndsEarly q = absurd (not_early at h q)
      by N.Malformed q = rw (← number_same at h, q)

  -- where one that was read ends
  pub field_end : (w : Wanted) (at v n : ℕ) → field_at s w at ≡ go v n → n ≤ at + bytes_of w
  unfolding bytes_of
  field_end w at v n e =
      let r = field-read s w at v n e in
      omega (arith, (r.bytes file.bytes).past, longer v w.high r.fine.most)

  -- where several end
  pub run_end : (ws : List Wanted) (at : ℕ) (all : List ℕ) (n : ℕ) → fields_at (field_at s) ws [] at ≡ go all n
      → n ≤ at + total bytes_of ws
  run_end ws at all n e =
      let r = taken_all (in_file s) ws at all n e in
      omega (arith, (r.bytes file.bytes).past, short ws all r.fine)

  -- numbers one after another are read alike
  pub fields_same : (ws : List Wanted) (done : List ℕ) (at : ℕ) → at + total bytes_of ws ≤ most
      → fields_at (field_at s) ws done at ≡ fields_at (field_at (front most s)) ws done at
  unfolding fields_at total
  fields_same [] done at h = refl
  fields_same (w ∷ ws) done at h =
      let own : 0 < bytes_of w = unfold bytes_of in encode_some w.high in
      then_same (field_at s w at) (field_at (front most s) w at) _ _ (field_same w at (omega arith))
      (λ v n e. fields_same ws (done ++ (v ∷ [])) n (omega (arith, field_end w at v n e)))

  -- bytes are left behind them, in the file as in its front
  pub left_same : (at : ℕ) → at ≤ most → ltb at (length s) ≡ ltb at (length (front most s))
  left_same at h =
      let cut = length-take-le (most + 3) s file.long in
      lt-ltb at (length s) (omega (arith, file.long)) ∙ sym (lt-ltb at (length (front most s)) (omega arith))

-- what is the same of a longer file and of its front is the same of any: a shorter one is its front
pub judged_by-front : {A : Type 0} (most : ℕ) (says : List ℕ → A) → ((s : List ℕ) → Long most s → says s ≡ says (front most s))
    → (s : List ℕ) → Bytes s → says (front most s) ≡ says s
judged_by-front most says same s bs =
    ⊎_elim (λ h. sym (same s record { bytes = bs; long = omega arith })) (λ h. ap says (take_all (most + 3) s h))
    (either (most + 3) (length s))
