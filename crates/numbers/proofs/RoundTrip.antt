-- What is written is read back, and what was read is written back. Assumes nothing.
use Prim.Native.Nat.{ℕ, zero, suc, ◌+◌, ◌-◌, ◌*◌, ◌/◌, ◌%◌, ◌^◌, ◌≤◌, ◌<◌}
use native.Mathlib.Nat.{pow-suc, one-le-pow}
use native.Mathlib.Numerals.{one-add}
use native.Mathlib.Decide.{dec_lt}
use native.Mathlib.Omega.{arith}
use borrow.Author.Tests.{lt-ltb, le-ltb}
use mathlib.Core.Path.{◌≡◌, refl, sym, ap, ap₂, ◌∙◌}
use mathlib.Core.List.{List, [], ◌∷◌, ◌++◌}
use mathlib.Core.Bool.{Bool, true, false}
use lib.ListN.{length, drop}
use lib.Seq.{drop-drop, get_or-drop}
use lib.Dec.{lit≤}
use Rattle.numbers.specs.Numbers.{Number}
use Rattle.numbers.specs.Numbers.{Got, EndsEarly, Malformed}
use Rattle.numbers.specs.Numbers.{Bytes, after, last, groups, number_at, encode_in, encode}
use Rattle.numbers.proofs.Laws.{encode_in-one, encode-room}

-- the shortest form in four bytes
four : (n : ℕ) → n < 128 ^ 4 → encode_in 4 n ≡ encode n
unfolding encode
four n h = encode-room 3 n h

-- ---- what is written is read

-- what was written in at most k bytes, with something behind it, is read
abbrev ReadIn : List ℕ → Bool → ℕ → ℕ → Type 0
ReadIn rest alone k n = groups alone k (encode_in k n ++ rest) ≡ Got n (length (encode_in k n))

module _ (rest : List ℕ) where
  -- one byte
  short : (alone : Bool) (k n : ℕ) → n < 128 → last alone n ≡ Got n 1 → ReadIn rest alone (suc k) n
  unfolding groups encode_in
  short alone k n h l = rw (lt-ltb n 128 h) (rw (lt-ltb n 128 h) l)

  -- one byte before others
  long : (alone : Bool) (k n : ℕ) → 128 ≤ n → ReadIn rest false k (n / 128) → ReadIn rest alone (suc k) n
  unfolding groups encode_in
  long alone k n h e = rw (le-ltb n 128 h) (rw (le-ltb (128 + n % 128) 128 (omega arith), e) (ap₂ Got (omega arith) (omega arith)))

  written : (alone : Bool) (k n : ℕ) → n < 128 ^ suc k → (n < 128 → last alone n ≡ Got n 1) → ReadIn rest alone (suc k) n
  written alone zero n h l = short alone zero n h (l h)
  written alone (suc k) n h l =
      go (dec_lt n 128) (λ b. written false k (n / 128) (omega (arith, pow-suc 128 (suc k))) (λ s. rw (lt-ltb 0 (n / 128) (omega arith))))
    where
      go : Dec (n < 128) → (128 ≤ n → ReadIn rest false (suc k) (n / 128)) → ReadIn rest alone (suc (suc k)) n
      go (yes s) ih = short alone (suc k) n s (l s)
      go (no b) ih = let large : 128 ≤ n = omega arith in long alone (suc k) n large (ih large)

-- a number that stands at a place is read there
pub read_here : (s rest : List ℕ) (at n : ℕ) → n < 128 ^ 4 → drop at s ≡ encode n ++ rest
    → number_at s at ≡ Got n (at + length (encode n))
unfolding number_at
read_here s rest at n h e =
    ap (λ (t : List ℕ). after 0 1 at (groups true 4 t)) (e ∙ ap (λ (f : List ℕ). f ++ rest) (sym (four n h)))
    ∙ ap (after 0 1 at) (written rest true 3 n h (λ l. refl))
    ∙ ap₂ Got (omega arith) (ap (λ (f : List ℕ). at + length f) (four n h))

-- ---- what was read is written

-- v was read from the first m bytes of s: they are its shortest form
record Shown (alone : Bool) (k : ℕ) (s : List ℕ) (v m : ℕ) : Type 0 where
  small : v < 128 ^ k
  several : alone ≡ false → 0 < v
  used : m ≡ length (encode_in k v)
  back : encode_in k v ++ drop m s ≡ s

-- a number that is not there was not read
none_got : {A : Type 0} {v m : ℕ} (x : Number) → x ≡ Got v m → x ≡ EndsEarly → A
none_got x p q = let z : ◌≡◌ {A = ℕ} 0 1 = cc in absurd (omega arith)

bad_got : {A : Type 0} {v m : ℕ} (x : Number) → x ≡ Got v m → x ≡ Malformed → A
bad_got x p q = let z : ◌≡◌ {A = ℕ} 0 1 = cc in absurd (omega arith)

-- the last byte shows its own value, not 0 after others
last_got : (alone : Bool) (b v m : ℕ) → last alone b ≡ Got v m → (b ≡ v) × (m ≡ 1) × (alone ≡ false → 0 < v)
last_got true b v m e = (cc, cc, λ f. absurd (let z : ◌≡◌ {A = ℕ} 0 1 = cc in omega arith))
last_got false b v m e = go (dec_lt 0 b)
  where
    go : Dec (0 < b) → (b ≡ v) × (m ≡ 1) × (false ≡ false → 0 < v)
    go (yes h) =
        let e' : Got b 1 ≡ Got v m = rw (lt-ltb 0 b h) at e in
        let same : b ≡ v = cc in
        (same, cc, λ f. omega arith)
    go (no h) = bad_got _ e (rw (le-ltb 0 b (omega arith)))

-- a group before a number that is not 0 is written back as its byte
encode_group : (k b v : ℕ) → 128 ≤ b → b < 256 → 0 < v → encode_in (suc k) (b - 128 + 128 * v) ≡ b ∷ encode_in k v
unfolding encode_in
encode_group k b v h l p =
    rw (le-ltb (b - 128 + 128 * v) 128 (omega arith)) (ap₂ ◌∷◌ (omega arith) (ap (encode_in k) (omega arith)))

shown_last : (alone : Bool) (k b : ℕ) (s : List ℕ) (v m : ℕ) → b < 128 → last alone b ≡ Got v m → Shown alone (suc k) (b ∷ s) v m
shown_last alone k b s v m h e =
    let d = last_got alone b v m e in
    rw (← d.0, d.1)
    record {
      small = omega (arith, pow-suc 128 k, one-le-pow k 128 (lit≤ tt));
      several = λ f. omega (arith, d.0, d.2 f);
      used = rw (encode_in-one k b h);
      back = rw (encode_in-one k b h);
    }

shown_more : (alone : Bool) (k b : ℕ) (s : List ℕ) (v m : ℕ) → 128 ≤ b → b < 256 → Shown false k s v m
    → Shown alone (suc k) (b ∷ s) (b - 128 + 128 * v) (1 + m)
shown_more alone k b s v m h l r =
    let p : 0 < v = r.several refl in
    rw (one-add m)
    record {
      small = omega (arith, pow-suc 128 k, r.small);
      several = λ f. omega arith;
      used = rw (encode_group k b v h l p) (ap suc r.used);
      back = rw (encode_group k b v h l p) (ap (◌∷◌ b) r.back);
    }

shown : (alone : Bool) (k : ℕ) (s : List ℕ) (v m : ℕ) → Bytes s → groups alone k s ≡ Got v m → Shown alone k s v m
unfolding groups
shown alone zero s v m bs e = bad_got _ e refl
shown alone (suc k) [] v m bs e = none_got _ e refl
shown alone (suc k) (b ∷ s) v m bs e = go (dec_lt b 128) (λ v' m'. shown false k s v' m' (λ i. bs (suc i)))
  where
    IH : Type 0
    IH = (v' m' : ℕ) → groups false k s ≡ Got v' m' → Shown false k s v' m'

    more : 128 ≤ b → IH → (x : Number) → groups false k s ≡ x → after (b - 128) 128 1 x ≡ Got v m → Shown alone (suc k) (b ∷ s) v m
    more h ih (Got v' m') q f =
        let d : b - 128 + 128 * v' ≡ v = cc in
        let u : 1 + m' ≡ m = cc in
        rw (← d, ← u) (shown_more alone k b s v' m' h (bs 0) (ih v' m' q))
    more h ih EndsEarly q f = none_got _ f refl
    more h ih Malformed q f = bad_got _ f refl

    go : Dec (b < 128) → IH → Shown alone (suc k) (b ∷ s) v m
    go (yes h) ih = shown_last alone k b s v m h (rw (lt-ltb b 128 h) at e)
    go (no h) ih = let g : 128 ≤ b = omega arith in more g ih (groups false k s) refl (rw (le-ltb b 128 g) at e)

-- a number that was read stands there in its shortest form
pub record Stands (s : List ℕ) (at v next : ℕ) : Type 0 where
  pub small : v < 128 ^ 4
  pub past : next ≡ at + length (encode v)
  pub bytes : drop at s ≡ encode v ++ drop next s

pub stands : (s : List ℕ) (at v next : ℕ) → Bytes s → number_at s at ≡ Got v next → Stands s at v next
unfolding number_at
stands s at v next bs e = go (groups true 4 (drop at s)) refl e
  where
    go : (x : Number) → groups true 4 (drop at s) ≡ x → after 0 1 at x ≡ Got v next → Stands s at v next
    go (Got v' m) q f =
        let r = shown true 4 (drop at s) v' m (λ i. rw (get_or-drop at s i 0) (bs (at + i))) q in
        let d : 0 + 1 * v' ≡ v = cc in
        let u : at + m ≡ next = cc in
        let w : v' ≡ v = omega arith in
        let form = four v' r.small in
        rw (← w, ← u)
        record {
          small = r.small;
          past = ap (◌+◌ at) (r.used ∙ ap length form);
          bytes = sym (rw (drop-drop m at s, form) at r.back);
        }
    go EndsEarly q f = none_got _ f refl
    go Malformed q f = bad_got _ f refl
