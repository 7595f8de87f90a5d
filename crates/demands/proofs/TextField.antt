-- A field of a text, in the words of the rules, is a number that stands there with what ends it. Assumes nothing.
use Prim.Native.Nat.{ℕ}
use native.Mathlib.Omega.{arith}
use mathlib.Core.Path.{◌≡◌, ap, ◌∙◌}
use mathlib.Core.Logic.{inl, inr}
use mathlib.Core.List.{List, ◌++◌}
use lib.ListN.{length, drop}
use Rattle.lists.proofs.Drops.{next_here}
use Rattle.fields.proofs.Taken.{Between, between-here}
use Rattle.fields.specs.declared.Ending.{Ending}
use Rattle.comma.proofs.ValueRead.{Value, Ends}
use Rattle.demands.specs.TextReached.{FieldText, stop_bytes, FieldStands}

-- a number that stands there with what ends it
pub record Parts (s : List ℕ) (at v : ℕ) (ending : Ending) (end next : ℕ) : Type 0 where
  pub value : Value s at v end
  pub ends : Ends s end ending next

-- its text, bare or quoted
text-value : {s : List ℕ} {at v end : ℕ} {text : List ℕ} → FieldText v text → Between s at text end → Value s at v end
text-value FieldText.plain k = inl k
text-value FieldText.quoted k = inr k

module _ {s : List ℕ} {at v end next : ℕ} {ending : Ending} where
  -- so it is where a field stands
  pub field-parts : FieldStands s at v ending end next → Parts s at v ending end next
  field-parts f =
      let rest = stop_bytes ending ++ drop next s in
      let behind : drop end s ≡ rest = ap (λ n. drop n s) f.stop ∙ next_here s f.text rest at f.stand in
      let number : Between s at f.text end = rw f.stop (between-here f.text rest f.stand) in
      record {
        value = text-value f.field number;
        ends = record {
          bytes = record { stand = behind; past = f.past };
          last = λ e. omega (arith, f.text_end e, f.past, ap (λ x. length (stop_bytes x)) e);
        };
      }

  -- a field with this text stands there
  text_stands : {text : List ℕ} → FieldText v text → Between s at text end → Ends s end ending next → FieldStands s at v ending end next
  text_stands {text} t k e = record {
    text = text;
    field = t;
    stand = k.stand ∙ ap (◌++◌ text) e.bytes.stand;
    stop = k.past;
    past = e.bytes.past;
    text_end = λ q. omega (arith, e.last q, e.bytes.past);
  }

  -- so where a number stands with what ends it, a field does
  pub parts-field : Value s at v end → Ends s end ending next → FieldStands s at v ending end next
  parts-field (inl k) e = text_stands FieldText.plain k e
  parts-field (inr k) e = text_stands FieldText.quoted k e
