-- Numbers that were read are what they may be, and stand in the file in their shortest form. Assumes nothing.
use Prim.Native.Nat.{ℕ, ◌+◌, ◌≤◌, ◌<◌}
use native.Mathlib.Nat.{add-zero}
use native.Mathlib.Omega.{arith}
use mathlib.Core.Path.{◌≡◌, refl, sym, ap, ◌∙◌}
use mathlib.Core.List.{List, [], ◌∷◌, ◌++◌, append_assoc, append-nil}
use lib.ListN.{length, drop, get_or, length-append, length-drop, get_or-append}
use lib.Seq.{get_or-drop}
use Rattle.lists.specs.Lists.{each}
use Rattle.lists.proofs.Tests.{by_test}
use Rattle.lists.proofs.Drops.{next_here}
use Rattle.numbers.specs.Numbers.{Bytes, number_at, encode}
use Rattle.numbers.specs.Numbers.{Number}
use Rattle.numbers.specs.Numbers as N
use Rattle.numbers.proofs.RoundTrip.{stands}
use Rattle.table.specs.declared.Verdict.{Verdict}
use Rattle.table.specs.Verdicts.{code_of, good}
use Rattle.table.specs.declared.Wanted.{Wanted}
use Rattle.table.specs.Fields.{head, row_from, judge}
use Rattle.table.proofs.Codes.{good-code}
use Rattle.table.proofs.Fine.{Fine, good_fine, AllFine}
use Rattle.table.proofs.Heads.{GoodHead, good-head}
use Rattle.table.proofs.Seven.{seven}
use Rattle.fields.specs.Stepping.{Step, stop, go, ◌then◌, unless, asked, field_at, fields_at}

-- a step that went on did not stop
pub stopped_not : {A B : Type 0} (x : Step A) {v : Verdict} {a : A} {n : ℕ} → x ≡ stop v → x ≡ go a n → B
stopped_not x p q = let z : ◌≡◌ {A = ℕ} 0 1 = cc in absurd (omega arith)

-- what went on past a verdict was good
pub record Passed {A : Type 0} (v : Verdict) (a : A) (m : ℕ) (b : A) (n : ℕ) : Type 0 where
  pub fine : code_of v ≡ 0
  pub same : a ≡ b
  pub place : m ≡ n

-- so it was
pub passed : {A : Type 0} (v : Verdict) (a : A) (m : ℕ) (b : A) (n : ℕ) → unless v a m ≡ go b n → Passed v a m b n
unfolding unless
passed v a m b n e =
    by_test (good v)
    (λ t. let f : go a m ≡ go b n = rw t at e in record { fine = good-code v t; same = cc; place = cc })
    (λ t. let f : stop v ≡ go b n = rw t at e in stopped_not (stop v) refl f)

-- what was read first, and what was read then
pub record Then {A B : Type 0} (x : Step A) (f : A → ℕ → Step B) (b : B) (n : ℕ) : Type 0 where
  pub what : A
  pub place : ℕ
  pub first : x ≡ go what place
  pub rest : f what place ≡ go b n

-- both were read
pub then_read : {A B : Type 0} (x : Step A) (f : A → ℕ → Step B) (b : B) (n : ℕ) → (x then f) ≡ go b n → Then x f b n
unfolding ◌then◌
then_read (stop v) f b n e = stopped_not (stop v) refl e
then_read (go a m) f b n e = record { what = a; place = m; first = refl; rest = e }

-- from one place to the next stand these bytes
pub record Between (s : List ℕ) (at : ℕ) (bytes : List ℕ) (next : ℕ) : Type 0 where
  pub stand : drop at s ≡ bytes ++ drop next s
  pub past : next ≡ at + length bytes

-- nothing stands from a place to itself
pub none_between : (s : List ℕ) (at : ℕ) → Between s at [] at
none_between s at = record { stand = refl; past = sym (add-zero at) }

-- bytes with others behind them stand up to these
pub between-here : {s : List ℕ} {at : ℕ} (bytes rest : List ℕ) → drop at s ≡ bytes ++ rest → Between s at bytes (at + length bytes)
between-here {s} {at} bytes rest e = record { stand = e ∙ ap (◌++◌ bytes) (sym (next_here s bytes rest at e)); past = refl }

-- the first of them stands at the place
pub between_first : {s : List ℕ} {at n : ℕ} {bytes : List ℕ} → 0 < length bytes → Between s at bytes n → get_or s at 0 ≡ get_or bytes 0 0
between_first {s} {at} {n} {bytes} some k =
    sym (rw add-zero at (get_or-drop at s 0 0)) ∙ ap (λ l. get_or l 0 0) k.stand ∙ get_or-append bytes (drop n s) 0 0 some

-- some bytes that stand there stand within the text
pub between_within : {s : List ℕ} {at n : ℕ} {bytes : List ℕ} → 0 < length bytes → Between s at bytes n → n ≤ length s
between_within {s} {at} {n} {bytes} some k =
    omega (arith, k.past, ap length k.stand, length-append bytes (drop n s), length-drop at s, length-drop n s)

-- what stands there, part by part
pub split_between : {s : List ℕ} {at n : ℕ} (a b : List ℕ) → Between s at (a ++ b) n
    → Between s at a (at + length a) × Between s (at + length a) b n
split_between {s} {at} {n} a b k =
    let stand : drop at s ≡ a ++ (b ++ drop n s) = k.stand ∙ append_assoc a b (drop n s) in
    let behind = next_here s a (b ++ drop n s) at stand in
    (between-here a (b ++ drop n s) stand, record { stand = behind; past = omega (arith, k.past, length-append a b) })

-- and behind them others
pub both_between : (s : List ℕ) (at m n : ℕ) (a b : List ℕ) → Between s at a m → Between s m b n → Between s at (a ++ b) n
both_between s at m n a b e f = record {
  stand = e.stand ∙ ap (◌++◌ a) f.stand ∙ sym (append_assoc a b (drop n s));
  past = rw length-append (omega (arith, e.past, f.past));
}

-- a way to read one number: what it reads is what it may be, and where `plain` holds it stands there in its form
pub record Reader (s : List ℕ) (plain : Type 0) (form : ℕ → List ℕ) (one : Wanted → ℕ → Step ℕ) : Type 0 where
  pub fine : (w : Wanted) (at v n : ℕ) → one w at ≡ go v n → Fine w v
  pub bytes : plain → (w : Wanted) (at v n : ℕ) → one w at ≡ go v n → Between s at (form v) n

-- the number that was read stands in the file, and is what it may be
pub record Read (s : List ℕ) (w : Wanted) (at v n : ℕ) : Type 0 where
  pub number : number_at s at ≡ N.Got v n
  pub fine : Fine w v
  pub bytes : Bytes s → Between s at (encode v) n

-- so it is where a wanted number was read
pub field-read : (s : List ℕ) (w : Wanted) (at v n : ℕ) → field_at s w at ≡ go v n → Read s w at v n
unfolding field_at asked
field-read s w at v n e = by (number_at s at) refl
  where
    by : (x : Number) → number_at s at ≡ x → Read s w at v n
    by (N.Got u m) q =
        let f : unless (judge w at u) u m ≡ go v n = rw q at e in
        let p = passed (judge w at u) u m v n f in
        rw (← p.same, ← p.place)
        record {
          number = q;
          fine = good_fine w at u p.fine;
          bytes = λ bs. let r = stands s at u m bs q in record { stand = r.bytes; past = r.past };
        }
    by N.EndsEarly q = let f : ◌≡◌ {A = Step ℕ} (stop _) (go v n) = rw q at e in stopped_not _ refl f
    by N.Malformed q = let f : ◌≡◌ {A = Step ℕ} (stop _) (go v n) = rw q at e in stopped_not _ refl f

-- in its shortest form
pub in_file : (s : List ℕ) → Reader s (Bytes s) encode (field_at s)
in_file s = record {
  fine = λ w at v n e. (field-read s w at v n e).fine;
  bytes = λ bs w at v n e. (field-read s w at v n e).bytes bs;
}

module _ {s : List ℕ} {plain : Type 0} {form : ℕ → List ℕ} {one : Wanted → ℕ → Step ℕ} (reader : Reader s plain form one) where
  -- the numbers that were read behind those that were done
  pub record Taken (ws : List Wanted) (done : List ℕ) (at : ℕ) (all : List ℕ) (n : ℕ) : Type 0 where
    pub numbers : List ℕ
    pub whole : all ≡ done ++ numbers
    pub fine : AllFine ws numbers
    pub bytes : plain → Between s at (each form numbers) n

  -- so it is where wanted numbers were read
  pub taken : (ws : List Wanted) (done : List ℕ) (at : ℕ) (all : List ℕ) (n : ℕ) → fields_at one ws done at ≡ go all n
      → Taken ws done at all n
  unfolding fields_at AllFine each
  taken [] done at all n e =
      let same : done ≡ all = cc in
      let here : at ≡ n = cc in
      record {
        numbers = [];
        whole = sym same ∙ sym (append-nil done);
        fine = tt;
        bytes = λ p. record { stand = ap (λ (k : ℕ). drop k s) here; past = omega arith };
      }
  taken (w ∷ ws) done at all n e =
      let r = then_read (one w at) (λ v m. fields_at one ws (done ++ (v ∷ [])) m) all n e in
      more r.what r.place r.first (taken ws (done ++ (r.what ∷ [])) r.place all n r.rest)
    where
      more : (v m : ℕ) → one w at ≡ go v m → Taken ws (done ++ (v ∷ [])) m all n → Taken (w ∷ ws) done at all n
      more v m f l = record {
        numbers = v ∷ l.numbers;
        whole = l.whole ∙ append_assoc done (v ∷ []) l.numbers;
        fine = (reader.fine w at v m f, l.fine);
        bytes = λ p. both_between s at m n (form v) (each form l.numbers) (reader.bytes p w at v m f) (l.bytes p);
      }

  -- from nothing done: all of them
  pub record TakenAll (ws : List Wanted) (at : ℕ) (all : List ℕ) (n : ℕ) : Type 0 where
    pub fine : AllFine ws all
    pub bytes : plain → Between s at (each form all) n

  -- so it is where nothing was done before
  pub taken_all : (ws : List Wanted) (at : ℕ) (all : List ℕ) (n : ℕ) → fields_at one ws [] at ≡ go all n → TakenAll ws at all n
  taken_all ws at all n e = let r = taken ws [] at all n e in rw r.whole record { fine = r.fine; bytes = r.bytes }

  -- a row's fields that were read are in their ranges
  pub head_read : (used at : ℕ) (fields : List ℕ) (n : ℕ) → fields_at one (head used) [] at ≡ go fields n → GoodHead used (row_from fields)
  head_read used at fields n e =
      let f = (taken_all (head used) at fields n e).fine in
      good-head used (row_from fields) (rw (seven used fields f) f)
