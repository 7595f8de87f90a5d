-- A field step by step, as the code reads it: its text, its range, then whether its stop fits. Assumes nothing.
use Prim.Native.Nat.{ℕ, ◌<◌, min}
use native.Mathlib.Omega.{arith}
use borrow.Author.Tests.{lt-ltb, le-ltb}
use mathlib.Core.Path.{◌≡◌, sym, ap, ◌∙◌}
use mathlib.Core.Logic.{⊎_elim}
use mathlib.Core.Bool.{Bool, true, false}
use mathlib.Core.List.{List}
use Rattle.std.specs.Prelude.{Ok, Err}
use Rattle.lists.proofs.Tests.{either}
use Rattle.table.specs.declared.Verdict.{Verdict}
use Rattle.table.specs.declared.Verdict.TheVariants.{OutOfRange, BadText}
use Rattle.table.specs.Verdicts.{good, ◌or_else◌, judged}
use Rattle.table.specs.declared.Wanted.{Wanted}
use Rattle.table.specs.Fields.{judge}
use Rattle.table.proofs.Codes.{good-code, passed, refused}
use Rattle.table.proofs.Fine.{good_fine}
use Rattle.fields.specs.Stepping.{◌then◌, unless}
use Rattle.fields.specs.declared.Ending.{Ending}
use Rattle.fields.specs.TextFields.{value_at, ending_at, fits, misfit, text_field}
use Rattle.fields.specs.Promises.{as_read, held}
use Rattle.fields.proofs.Steps.{got_read, refused-read}
use Rattle.fields.proofs.Valued.{held_stop, Held, held_go}

-- a number above every range is judged as the cap is
judge-held : (w : Wanted) (at v : ℕ) → w.high < 16777216 → judge w at (min 16777216 v) ≡ judge w at v
unfolding judge
judge-held w at v small =
    ⊎_elim (λ low. let same : min 16777216 v ≡ v = omega arith in rw same)
    (λ above. let same : min 16777216 v ≡ 16777216 = omega arith in rw same (out 16777216 (omega arith) ∙ sym (out v (omega arith))))
    (either v 16777216)
  where
    out : (n : ℕ) → w.high < n → judge w at n ≡ OutOfRange at
    out n h = ⊎_elim (λ low. rw (lt-ltb n w.low low)) (λ low. rw (le-ltb n w.low low, lt-ltb w.high n h)) (either n w.low)

module _ (last : Bool) (s : List ℕ) (w : Wanted) (at : ℕ) where
  -- its text is refused
  pub value_stops : (v : Verdict) → Err v ≡ as_read (held (value_at s at)) → Err v ≡ as_read (text_field last s w at)
  unfolding text_field ◌then◌
  value_stops v e = rw (held_stop (value_at s at) v (refused-read _ v e))

  module _ (small : w.high < 16777216) (v end : ℕ) (e : Ok (record { value = v; next = end }) ≡ as_read (held (value_at s at))) where
    -- its number
    number : Held (value_at s at) v end
    number = held_go _ v end (got_read _ _ e)

    -- nothing stops it
    pub ending_stops : (x : Verdict) → Err x ≡ as_read (ending_at s end) → Err x ≡ as_read (text_field last s w at)
    unfolding text_field ◌then◌
    ending_stops x f = rw (number.step, refused-read (ending_at s end) x f)

    -- what is said of the number itself
    same_judge : judge w at v ≡ judge w at number.number
    same_judge = ap (judge w at) (sym number.same) ∙ judge-held w at number.number small

    module _ (ending : Ending) (next : ℕ) (f : Ok (record { value = ending; next = next }) ≡ as_read (ending_at s end)) where
      -- what is left to say
      read : text_field last s w at ≡ unless (judge w at v or_else misfit last ending end) number.number next
      unfolding text_field ◌then◌
      read = rw (number.step, got_read (ending_at s end) _ f, same_judge)

      -- its range is not kept
      pub range_stops : (x : Verdict) → Err x ≡ judged (judge w at v) → Err x ≡ as_read (text_field last s w at)
      unfolding unless ◌or_else◌
      range_stops x g = let bad = refused _ g in rw (read, bad.0, bad.1, bad.0)

      module _ (kept : Ok tt ≡ judged (judge w at v)) where
        -- so it is the number that stands there
        same : number.number ≡ v
        same =
            let most = (good_fine w at number.number (rw same_judge at (good-code _ (passed _ kept)))).most in
            omega (arith, number.same)

        -- its stop fits
        pub stop_fits : fits last ending ≡ true → Ok (record { value = v; next = next }) ≡ as_read (text_field last s w at)
        unfolding unless ◌or_else◌ misfit good
        stop_fits t = let g = passed _ kept in rw (read, g, t, same)

        -- or not
        pub stop_misfits : fits last ending ≡ false → Err (BadText end) ≡ as_read (text_field last s w at)
        unfolding unless ◌or_else◌ misfit good
        stop_misfits t = let g = passed _ kept in rw (read, g, t)

-- what the code needs
pub ruleset by_steps = (value_stops, ending_stops, range_stops, stop_fits, stop_misfits)
