-- The times of a row as the code reads them, in either way: all but the last, then the last. Assumes nothing.
use Prim.Native.Nat.{ℕ, zero, suc, ◌-◌, ◌≤◌}
use native.Mathlib.Numerals.{sub-one}
use native.Mathlib.Omega.{arith}
use mathlib.Core.Path.{◌≡◌, refl, sym, ap, ◌∙◌}
use mathlib.Core.Bool.{true}
use mathlib.Core.List.{List, [], ◌∷◌, ◌++◌}
use lib.ListN.{length, get_or, take, drop, set, replicate, length-replicate, drop_of_length-le}
use lib.Seq.{set_at, drop-cons, length-take-le}
use Rattle.std.specs.Prelude.{Ok, Err}
use Rattle.std.proofs.lemmas.List.{take-replicate}
use Rattle.table.specs.declared.Verdict.{Verdict}
use Rattle.table.specs.declared.Wanted.{Wanted}
use Rattle.table.specs.Fields.{time}
use Rattle.table.proofs.Fine.{Fine, AllFine}
use Rattle.table.proofs.Seven.{all-length}
use Rattle.fields.specs.Ways.{Way}
use Rattle.fields.specs.Ways.{Seven, Commas}
use Rattle.fields.specs.Stepping.{Step, stop, go, ◌then◌, field_at, fields_at}
use Rattle.fields.specs.TextFields.{text_times}
use Rattle.fields.specs.Ways.{number_by, last_by, times_by}
use Rattle.fields.specs.Promises.{as_read}
use Rattle.fields.proofs.Steps.{got_read, refused-read, fields-append}
use Rattle.fields.proofs.Taken.{then_read, field-read, taken_all}
use Rattle.fields.proofs.Ways.{text_fine, in_way}

-- ---- all but the last, then the last

-- the last of some equal ones
same_last : {A : Type 0} (k : ℕ) (a : A) → 1 ≤ k → replicate k a ≡ replicate (k - 1) a ++ (a ∷ [])
same_last zero a h = absurd (omega arith)
same_last (suc zero) a h = refl
same_last (suc (suc k)) a h = rw sub-one (ap (◌∷◌ a) (same_last (suc k) a (omega arith) ∙ rw sub-one))

-- fine numbers, and one more
fine_more : (k : ℕ) (w : Wanted) (ns : List ℕ) (v : ℕ) → AllFine (replicate k w) ns → Fine w v
    → AllFine (replicate (suc k) w) (ns ++ (v ∷ []))
unfolding AllFine
fine_more zero w [] v f g = (g, tt)
fine_more zero w (n ∷ ns) v f g = absurd f
fine_more (suc k) w [] v f g = absurd f
fine_more (suc k) w (n ∷ ns) v f g = (f.0, fine_more k w ns v f.1 g)

-- of which all but the last are one fewer
fine_last : (k : ℕ) (w : Wanted) (ns : List ℕ) (v : ℕ) → 1 ≤ k → AllFine (replicate (k - 1) w) ns → Fine w v
    → AllFine (replicate k w) (ns ++ (v ∷ []))
fine_last zero w ns v some f g = absurd (omega arith)
fine_last (suc k) w ns v some f g = fine_more k w ns v (rw sub-one at f) g

-- the last time is what it may be
last_fine : (way : Way) (s : List ℕ) (at v n : ℕ) → last_by way s at ≡ go v n → Fine time v
last_fine Seven s at v n e = (field-read s time at v n e).fine
last_fine Commas s at v n e = text_fine true s time at v n e

-- all times but the last, then the last
parted : Way → List ℕ → ℕ → ℕ → Step (List ℕ)
parted way s k at =
    fields_at (number_by way s) (replicate (k - 1) time) [] at then λ ns p. last_by way s p then λ v n. go (ns ++ (v ∷ [])) n

-- so times are read in either way
times_parted : (way : Way) (s : List ℕ) (k at : ℕ) → 1 ≤ k → times_by way s k at ≡ parted way s k at
unfolding parted text_times fields_at
times_parted Seven s k at some =
    ap (λ (ws : List Wanted). fields_at (field_at s) ws [] at) (same_last k time some)
    ∙ fields-append (field_at s) (replicate (k - 1) time) (time ∷ []) [] [] at
times_parted Commas s k at some = refl

-- the times of a row that were read: all but the last, then the last
pub record Times (way : Way) (s : List ℕ) (k at : ℕ) (ts : List ℕ) (n : ℕ) : Type 0 where
  pub front : List ℕ
  pub mid : ℕ
  pub last : ℕ
  pub before : fields_at (number_by way s) (replicate (k - 1) time) [] at ≡ go front mid
  pub behind : last_by way s mid ≡ go last n
  pub whole : ts ≡ front ++ (last ∷ [])

module _ (way : Way) (s : List ℕ) (k at : ℕ) (ts : List ℕ) (n : ℕ) (some : 1 ≤ k) (e : times_by way s k at ≡ go ts n) where
  -- so it is where times were read
  pub times-parts : Times way s k at ts n
  unfolding parted
  times-parts =
      let a = then_read (fields_at (number_by way s) (replicate (k - 1) time) [] at) _ ts n (sym (times_parted way s k at some) ∙ e) in
      let b = then_read (last_by way s a.place) _ ts n a.rest in
      of a.what a.place b.what b.place a.first b.first b.rest
    where
      of : (front : List ℕ) (m v p : ℕ) → fields_at (number_by way s) (replicate (k - 1) time) [] at ≡ go front m
          → last_by way s m ≡ go v p → ◌≡◌ {A = Step (List ℕ)} (go (front ++ (v ∷ [])) p) (go ts n) → Times way s k at ts n
      of front m v p e f g =
          let place : p ≡ n = cc in
          record { front = front; mid = m; last = v; before = e; behind = rw place at f; whole = cc }

  -- each is what it may be
  pub times_fine : AllFine (replicate k time) ts
  times_fine =
      let r = times-parts in
      let front = (taken_all (in_way way s) (replicate (k - 1) time) at r.front r.mid r.before).fine in
      rw r.whole (fine_last k time r.front r.last some front (last_fine way s r.mid r.last n r.behind))

  -- and they are as many as are wanted
  pub times-count : length ts ≡ k
  times-count = all-length _ ts times_fine ∙ length-replicate k time

-- ---- as the code reads them

-- the last place
drop_last : (out : List ℕ) → 1 ≤ length out → drop (length out - 1) out ≡ get_or out (length out - 1) 0 ∷ []
drop_last out some =
    let past : length out ≤ suc (length out - 1) = omega arith in
    drop-cons out (length out - 1) 0 (omega arith) ∙ ap (◌∷◌ (get_or out (length out - 1) 0)) (drop_of_length-le out past)

-- the room has a place for each; the code lends all but the last
module _ (way : Way) (s : List ℕ) (at : ℕ) (out : List ℕ) (some : 1 ≤ length out) (few : length out ≤ 64) where
  -- those before the last
  abbrev front : Step (List ℕ)
  front = fields_at (number_by way s) (take (length out - 1) (replicate 64 time)) [] at

  -- then the last
  in_two : times_by way s (length out) at ≡ (front then λ ns p. last_by way s p then λ v n. go (ns ++ (v ∷ [])) n)
  unfolding parted
  in_two = let most : length out - 1 ≤ 64 = omega arith in times_parted way s (length out) at some ∙ rw take-replicate

  -- one of them is refused
  pub times_stop : (v : Verdict) → front ≡ stop v → times_by way s (length out) at ≡ stop v
  unfolding ◌then◌
  times_stop v e = in_two ∙ rw e

  -- they are read
  module _ (part : List ℕ) (p : ℕ) (read : front ≡ go part p) where
    -- the last is refused
    pub last_stops : (v : Verdict) → Err v ≡ as_read (last_by way s p) → times_by way s (length out) at ≡ stop v
    unfolding ◌then◌
    last_stops v e = in_two ∙ rw (read, refused-read _ v e)

    -- all are read
    pub times-read : (v n : ℕ) → Ok (record { value = v; next = n }) ≡ as_read (last_by way s p)
        → times_by way s (length out) at ≡ go (set (part ++ drop (length out - 1) out) (length out - 1) v) n
    unfolding ◌then◌
    times-read v n e =
        let count : length part ≡ length out - 1
        = all-length _ part (taken_all (in_way way s) _ at part p read).fine ∙ length-take-le _ _ (omega arith) in
        in_two ∙ rw (read, got_read _ _ e, drop_last out some, set_at part _ [] v (length out - 1) count)
