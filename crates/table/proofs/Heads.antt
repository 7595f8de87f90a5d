-- What the fields before a row's times are, where they have no fault. Assumes nothing.
use Prim.Native.Nat.{ℕ, ◌+◌, ◌≤◌}
use native.Mathlib.Omega.{arith}
use mathlib.Core.Path.{◌≡◌, refl}
use Rattle.model.specs.Rows.{Within}
use Rattle.table.specs.declared.Row.{Row}
use Rattle.table.specs.Verdicts.{code_of}
use Rattle.table.specs.Fields.{field, head, fields_of, fault_in}
use Rattle.table.proofs.Fine.{Fine, AllFine, good-all}

-- a row whose fields are in their ranges, with `used` times before it
pub record GoodHead (used : ℕ) (r : Row) : Type 0 where
  pub id : Within 1 65535 r.id
  pub core : Within 0 3 r.core
  pub kind : Within 0 1 r.kind
  pub priority : Within 1 255 r.priority
  pub period : Within 1 16777215 r.period
  pub deadline : Within 1 16777215 r.deadline
  pub parts : Within 1 64 r.parts
  pub room : used + r.parts ≤ 1024

-- a fine plain field is in its range
within : (low high n : ℕ) → Fine (field low high) n → Within low high n
within low high n f = record { least = f.least; most = f.most }

-- fine fields are in their ranges
pub good-head : (used : ℕ) (r : Row) → AllFine (head used) (fields_of r) → GoodHead used r
unfolding head AllFine
good-head used r f =
    let last = f.1.1.1.1.1.1.0 in
    record {
      id = within _ _ _ f.0;
      core = within _ _ _ f.1.0;
      kind = within _ _ _ f.1.1.0;
      priority = within _ _ _ f.1.1.1.0;
      period = within _ _ _ f.1.1.1.1.0;
      deadline = within _ _ _ f.1.1.1.1.1.0;
      parts = record { least = last.least; most = last.most };
      room = omega (arith, last.least, last.room);
    }

-- and as the code finds it
pub head-found : (used carried : ℕ) (r : Row) → code_of (fault_in (head used) carried (fields_of r)) ≡ 0 → GoodHead used r
unfolding head
head-found used carried r e = good-head used r (good-all (head used) carried (fields_of r) refl e)
