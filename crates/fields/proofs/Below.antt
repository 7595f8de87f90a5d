-- Ranges below the cap at which the code holds a number. Assumes nothing.
use Prim.Native.Nat.{ℕ, zero, suc, ◌<◌}
use native.Mathlib.Omega.{arith}
use mathlib.Core.List.{List, [], ◌∷◌}
use lib.ListN.{length, get_or, take, replicate}
use lib.Dec.{lit<}
use Rattle.table.specs.declared.Wanted.{Wanted}
use Rattle.table.specs.Fields.{head, time}
use Rattle.fields.specs.Promises.{AllBelow}

-- no number
pub none_below : AllBelow []
none_below = record { below = λ i h. absurd (omega arith) }

-- one number more
pub more_below : {w : Wanted} {ws : List Wanted} → w.high < 16777216 → AllBelow ws → AllBelow (w ∷ ws)
more_below {w} {ws} h b = record { below = by }
  where
    by : (i : ℕ) → i < length (w ∷ ws) → (get_or (w ∷ ws) i time).high < 16777216
    by zero k = h
    by (suc i) k = b.below i (omega arith)

-- the fields of a row
pub head_below : (used : ℕ) → AllBelow (head used)
unfolding head
head_below used =
    more_below (lit< tt) (more_below (lit< tt) (more_below (lit< tt)
    (more_below (lit< tt) (more_below (lit< tt) (more_below (lit< tt) (more_below (lit< tt) none_below))))))

-- some of its times
pub times_below : (n m : ℕ) → AllBelow (take n (replicate m time))
times_below zero m = none_below
times_below (suc n) zero = none_below
times_below (suc n) (suc m) = more_below (lit< tt) (times_below n m)
