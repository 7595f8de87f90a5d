-- A number that stands in a text in decimal, with its comma or the line's end, and is what it may be is read. Assumes nothing.
use Prim.Native.Nat.{ℕ}
use native.Mathlib.Omega.{arith}
use mathlib.Core.Path.{◌≡◌, refl}
use mathlib.Core.Bool.{Bool, true, false}
use mathlib.Core.Logic.{inl}
use mathlib.Core.List.{List, ◌++◌}
use Rattle.text.specs.Text.{decimal}
use Rattle.fields.proofs.Taken.{between-here, split_between}
use Rattle.fields.proofs.Here.{Finds}
use Rattle.fields.specs.declared.Ending.{Ending}
use Rattle.fields.specs.declared.Ending.TheVariants.{Comma, Line, Text}
use Rattle.fields.specs.TextFields.{fits, text_field}
use Rattle.comma.specs.Writing.{line_end}
use Rattle.comma.proofs.LineBytes.{with_comma}
use Rattle.comma.proofs.ValueRead.{end_bytes, not-text}
use Rattle.comma.proofs.FieldRead.{field-here}

-- with the bytes that end it, which are some and fit
ended_here : {s : List ℕ} (last : Bool) (ending : Ending) → (ending ≡ Text → ⊥) → fits last ending ≡ true
    → Finds s (λ v. decimal v ++ end_bytes ending) (text_field last s)
ended_here last ending some fit = record {
  found = λ w v rest at small f here.
      let k = split_between (decimal v) (end_bytes ending) (between-here (decimal v ++ end_bytes ending) rest here) in
      field-here
      (record {
        end = _;
        ending = ending;
        value = inl k.0;
        ends = record { bytes = k.1; last = λ e. absurd (some e) };
        fitting = fit;
        fine = f;
      });
}

module _ (s : List ℕ) where
  -- with its comma
  pub finds_in_text : Finds s with_comma (text_field false s)
  unfolding fits
  finds_in_text = ended_here false Comma (not-text {ending = Comma} (omega arith)) refl

  -- the last of a line, with the line's end
  pub finds_last : Finds s (λ v. decimal v ++ line_end) (text_field true s)
  unfolding fits
  finds_last = ended_here true Line (not-text {ending = Line} (omega arith)) refl
