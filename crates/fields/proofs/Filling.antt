-- Numbers read into lent room one by one: i of them are done, and the rest is still to be read. Assumes nothing.
use Prim.Native.Nat.{ℕ, ◌+◌, ◌≤◌, ◌<◌}
use native.Mathlib.Numerals.{add-one}
use mathlib.Core.Path.{◌≡◌}
use mathlib.Core.List.{List}
use lib.ListN.{length, get_or, take, drop, set, drop_of_length-le}
use lib.Seq.{drop-cons, take-suc-set, take_all}
use Rattle.std.specs.Prelude.{Ok, Err}
use Rattle.table.specs.declared.Verdict.{Verdict}
use Rattle.table.specs.declared.Wanted.{Wanted}
use Rattle.fields.specs.Stepping.{Step, stop, go, ◌then◌, fields_at}
use Rattle.fields.specs.Promises.{as_read}
use Rattle.fields.proofs.Steps.{got_read, refused-read}

-- what is left to read where i are done, each as `one` says, and the next is wanted at p
abbrev pub left : (Wanted → ℕ → Step ℕ) → List Wanted → List ℕ → ℕ → ℕ → Step (List ℕ)
left one ws out p i = fields_at one (drop i ws) (take i out) p

module _ (one : Wanted → ℕ → Step ℕ) (ws : List Wanted) (out : List ℕ) (p i : ℕ) where
  module _ (h : i < length ws) (d : Wanted) where
    -- one number more
    pub turn : (v n : ℕ) → i < length out → Ok (record { value = v; next = n }) ≡ as_read (one (get_or ws i d) p)
        → left one ws out p i ≡ left one ws (set out i v) n (i + 1)
    unfolding fields_at ◌then◌
    turn v n room e = rw (drop-cons ws i d h, got_read _ _ e, add-one, take-suc-set out i v room)

    -- a number is refused
    pub halts : (v : Verdict) → Err v ≡ as_read (one (get_or ws i d) p) → left one ws out p i ≡ stop v
    unfolding fields_at ◌then◌
    halts v e = rw (drop-cons ws i d h, refused-read _ v e)

  -- the room is full
  pub ends : length ws ≤ i → length out ≤ i → left one ws out p i ≡ go out p
  unfolding fields_at
  ends h full = rw (drop_of_length-le ws h, take_all i out full)

-- what the code needs
pub ruleset one_by_one = (turn, halts, ends)
