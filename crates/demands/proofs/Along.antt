-- Numbers wanted one after another stand there as far as they are read, whatever reads one of them. Assumes nothing.
use Prim.Native.Nat.{ℕ}
use mathlib.Core.Path.{◌≡◌, refl, sym, ap, ◌∙◌}
use mathlib.Core.Logic.{◌⊎◌, inl, inr, ⊎_elim}
use mathlib.Core.List.{List, [], ◌∷◌, ◌++◌, append_assoc, append-nil}
use Rattle.table.specs.declared.Verdict.{Verdict}
use Rattle.table.specs.declared.Wanted.{Wanted}
use Rattle.fields.specs.Stepping.{Step, stop, go, ◌then◌, fields_at}
use Rattle.demands.specs.Reached.{Along}

-- what stands at a place is what is read there
pub record Agrees (S : Wanted → ℕ → ℕ → ℕ → Type 0) (one : Wanted → ℕ → Step ℕ) : Type 0 where
  pub read : {w : Wanted} {at v next : ℕ} → S w at v next → one w at ≡ go v next
  pub stands : (w : Wanted) (at v next : ℕ) → one w at ≡ go v next → S w at v next

-- numbers wanted from a place on: all of them stand there
pub record AllStand (S : Wanted → ℕ → ℕ → ℕ → Type 0) (ws : List Wanted) (at : ℕ) : Type 0 where
  pub vs : List ℕ
  pub n : ℕ
  pub along : Along S ws at vs [] n

-- or one of them is refused
pub record OneRefused (S : Wanted → ℕ → ℕ → ℕ → Type 0) (one : Wanted → ℕ → Step ℕ) (ws : List Wanted) (at : ℕ) : Type 0 where
  pub vs : List ℕ
  pub w : Wanted
  pub others : List Wanted
  pub n : ℕ
  pub v : Verdict
  pub along : Along S ws at vs (w ∷ others) n
  pub refused : one w n ≡ stop v

-- a step stopped or went on
pub stopped_or-not : {A : Type 0} (x : Step A) → ((v : Verdict) × (x ≡ stop v)) ⊎ ((a : A) × (n : ℕ) × (x ≡ go a n))
stopped_or-not (stop v) = inl (v, refl)
stopped_or-not (go a n) = inr (a, n, refl)

module _ {S : Wanted → ℕ → ℕ → ℕ → Type 0} {one : Wanted → ℕ → Step ℕ} (agrees : Agrees S one) where
  -- reading goes on behind numbers that stand there
  pub along_read : {ws others : List Wanted} {at n : ℕ} {vs : List ℕ} (done : List ℕ) → Along S ws at vs others n
      → fields_at one ws done at ≡ fields_at one others (done ++ vs) n
  unfolding fields_at ◌then◌
  along_read {ws} {at = at} done Along.here = ap (λ l. fields_at one ws l at) (sym (append-nil done))
  along_read {others = others} {n = n} done (Along.more {v = v} {vs = vs} a l) =
      rw (agrees.read a) (along_read (done ++ (v ∷ [])) l ∙ ap (λ l. fields_at one others l n) (append_assoc done (v ∷ []) vs))

  -- numbers wanted from a place on all stand there, or one is refused
  pub fields_reached : (ws : List Wanted) (at : ℕ) → AllStand S ws at ⊎ OneRefused S one ws at
  fields_reached [] at = inl (record { vs = []; n = at; along = Along.here })
  fields_reached (w ∷ ws) at =
      ⊎_elim (λ r. inr (record { vs = []; w = w; others = ws; n = at; v = r.0; along = Along.here; refused = r.1 }))
      (λ r. on r.0 r.1 (agrees.stands w at r.0 r.1 r.2) (fields_reached ws r.1))
      (stopped_or-not (one w at))
    where
      on : (a m : ℕ) → S w at a m → AllStand S ws m ⊎ OneRefused S one ws m → AllStand S (w ∷ ws) at ⊎ OneRefused S one (w ∷ ws) at
      on a m e (inl f) = inl (record { vs = a ∷ f.vs; n = f.n; along = Along.more e f.along })
      on a m e (inr f) =
          inr
          (record {
            vs = a ∷ f.vs;
            w = f.w;
            others = f.others;
            n = f.n;
            v = f.v;
            along = Along.more e f.along;
            refused = f.refused;
          })
