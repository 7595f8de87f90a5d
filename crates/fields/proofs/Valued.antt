-- A field's number and its stop, met byte by byte, as the code holds them. Assumes nothing.
use Prim.Native.Nat.{ℕ, ◌+◌, ◌≤◌, ◌<◌, min}
use borrow.Author.Tests.{lt-ltb, le-ltb, eq-eqb, ne_eqb}
use mathlib.Core.Path.{◌≡◌}
use mathlib.Core.List.{List}
use lib.ListN.{length, get_or}
use Rattle.std.specs.Prelude.{Ok, Err}
use Rattle.table.specs.declared.Verdict.{Verdict}
use Rattle.table.specs.declared.Verdict.TheVariants.{BadText}
use Rattle.text.specs.Text.{line_feed}
use Rattle.fields.specs.Stepping.{Step, stop, go, ◌then◌}
use Rattle.fields.specs.declared.Ending.TheVariants.{Comma, Line, Text}
use Rattle.fields.specs.TextFields.{comma, quote, carriage_return, stands_at, decimal_at, closed_at, value_at, ending_at}
use Rattle.fields.specs.Promises.{as_read, held}
use Rattle.fields.proofs.Steps.{got_read, refused-read}

-- what is held stops where the number does
pub held_stop : (x : Step ℕ) (v : Verdict) → held x ≡ stop v → x ≡ stop v
held_stop (stop w) v e = e
held_stop (go u n) v e = absurd cc

-- and else is that number, held
pub record Held (x : Step ℕ) (v n : ℕ) : Type 0 where
  pub number : ℕ
  pub step : x ≡ go number n
  pub same : min 16777216 number ≡ v

-- so it is where the code went on
pub held_go : (x : Step ℕ) (v n : ℕ) → held x ≡ go v n → Held x v n
held_go (stop w) v n e = absurd cc
held_go (go u m) v n e = let q : m ≡ n = cc in record { number = u; step = rw q; same = cc }

module _ (s : List ℕ) (value at : ℕ) where
  -- a quote closes the number
  pub closes : get_or s at 0 ≡ quote → closed_at s value at ≡ go value (at + 1)
  unfolding closed_at stands_at
  closes e = rw (eq-eqb (get_or s at 0) quote e)

  -- another byte does not
  pub stays_open : (get_or s at 0 ≡ quote → ⊥) → closed_at s value at ≡ stop (BadText at)
  unfolding closed_at stands_at
  stays_open h = rw (ne_eqb (get_or s at 0) quote h)

module _ (s : List ℕ) (at : ℕ) where
  -- no quote: the number itself
  pub unquoted : (get_or s at 0 ≡ quote → ⊥) → value_at s at ≡ decimal_at s at
  unfolding value_at stands_at
  unquoted h = rw (ne_eqb (get_or s at 0) quote h)

  module _ (open-quote : get_or s at 0 ≡ quote) where
    -- behind a quote the number, and the quote that closes it
    pub inner : value_at s at ≡ (decimal_at s (at + 1) then λ value at. closed_at s value at)
    unfolding value_at stands_at
    inner = rw (eq-eqb (get_or s at 0) quote open-quote)

    -- the number is refused
    pub inner_stops : (v : Verdict) → Err v ≡ as_read (held (decimal_at s (at + 1))) → Err v ≡ as_read (held (value_at s at))
    unfolding ◌then◌
    inner_stops v e = rw (inner, held_stop (decimal_at s (at + 1)) v (refused-read _ v e))

    module _ (v n : ℕ) (e : Ok (record { value = v; next = n }) ≡ as_read (held (decimal_at s (at + 1)))) where
      -- the number that stands there
      number : Held (decimal_at s (at + 1)) v n
      number = held_go _ v n (got_read _ _ e)

      -- no quote closes it
      pub unclosed : (get_or s n 0 ≡ quote → ⊥) → Err (BadText n) ≡ as_read (held (value_at s at))
      unfolding ◌then◌
      unclosed h = rw (inner, number.step, stays_open s number.number n h)

      -- a quote does
      pub closed : get_or s n 0 ≡ quote → Ok (record { value = v; next = n + 1 }) ≡ as_read (held (value_at s at))
      unfolding ◌then◌
      closed h = rw (inner, number.step, closes s number.number n h, number.same)

-- what the code needs
pub ruleset by_quotes = (unquoted, inner_stops, unclosed, closed)

-- what ends a field
module _ (s : List ℕ) (at : ℕ) where
  -- the text's end
  pub at-text-end : length s ≤ at → ending_at s at ≡ go Text at
  unfolding ending_at
  at-text-end h = rw (le-ltb at (length s) h)

  module _ (h : at < length s) where
    -- a comma
    pub at-comma : get_or s at 0 ≡ comma → ending_at s at ≡ go Comma (at + 1)
    unfolding ending_at stands_at
    at-comma e = rw (lt-ltb at (length s) h, eq-eqb (get_or s at 0) comma e)

    module _ (other : get_or s at 0 ≡ comma → ⊥) where
      -- another byte
      pub at_other : (get_or s at 0 ≡ carriage_return → ⊥) → ending_at s at ≡ stop (BadText at)
      unfolding ending_at stands_at
      at_other e = rw (lt-ltb at (length s) h, ne_eqb (get_or s at 0) comma other, ne_eqb (get_or s at 0) carriage_return e)

      module _ (return : get_or s at 0 ≡ carriage_return) where
        -- a CR without LF
        pub at_return : (get_or s (at + 1) 0 ≡ line_feed → ⊥) → ending_at s at ≡ stop (BadText (at + 1))
        unfolding ending_at stands_at
        at_return e =
            rw (
              lt-ltb at (length s) h,
              ne_eqb (get_or s at 0) comma other,
              eq-eqb (get_or s at 0) carriage_return return,
              ne_eqb (get_or s (at + 1) 0) line_feed e,
            )

        -- a line end
        pub at-line_end : get_or s (at + 1) 0 ≡ line_feed → ending_at s at ≡ go Line (at + 2)
        unfolding ending_at stands_at
        at-line_end e =
            rw (
              lt-ltb at (length s) h,
              ne_eqb (get_or s at 0) comma other,
              eq-eqb (get_or s at 0) carriage_return return,
              eq-eqb (get_or s (at + 1) 0) line_feed e,
            )
