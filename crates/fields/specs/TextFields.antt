-- Document 02, §1: a field of comma-separated lines as in RFC 4180, read in text order; the first fault met is given.
use Rattle.std.specs.Prelude.{ℕ, ◌+◌, ◌-◌, Bool, true, false, not, List, [], ◌∷◌, ◌++◌, length, drop, get_or, replicate, eqb, ltb}
use Rattle.lists.specs.Lists.{pick}
use Rattle.text.specs.Text.{line_feed}
use Rattle.text.specs.Numerals.{digits_in, numeral}
use Rattle.table.specs.declared.Verdict.{Verdict}
use Rattle.table.specs.declared.Verdict.TheVariants.{Good, BadText}
use Rattle.table.specs.Verdicts.{◌or_else◌}
use Rattle.table.specs.declared.Wanted.{Wanted}
use Rattle.table.specs.Fields.{time, judge}
use Rattle.fields.specs.Stepping.{Step, stop, go, ◌then◌, unless, fields_at}
use Rattle.fields.specs.declared.Ending.{Ending}
use Rattle.fields.specs.declared.Ending.TheVariants.{Comma, Line, Text}

abbrev pub comma : ℕ
comma = 44

abbrev pub quote : ℕ
quote = 34

abbrev pub carriage_return : ℕ
carriage_return = 13

-- this byte, which is not 0, stands at a place
unfoldable pub stands_at : ℕ → List ℕ → ℕ → Bool
stands_at b s at = eqb (get_or s at 0) b

-- a decimal number without leading zeros: at least one digit, and none behind a zero
unfoldable pub shortest : List ℕ → ℕ → Step ℕ
shortest [] at = stop (BadText at)
shortest (d ∷ []) at = go (numeral (d ∷ [])) (at + 1)
shortest (d ∷ e ∷ ds) at = pick (eqb d 48) (stop (BadText (at + 1))) (go (numeral (d ∷ e ∷ ds)) (at + length (d ∷ e ∷ ds)))

-- the number that begins at a place
unfoldable pub decimal_at : List ℕ → ℕ → Step ℕ
decimal_at s at = shortest (digits_in (drop at s)) at

-- the quote that closes a field
unfoldable pub closed_at : List ℕ → ℕ → ℕ → Step ℕ
closed_at s value at = pick (stands_at quote s at) (go value (at + 1)) (stop (BadText at))

-- a field's number, which may be quoted
unfoldable pub value_at : List ℕ → ℕ → Step ℕ
value_at s at = pick (stands_at quote s at) (decimal_at s (at + 1) then λ value at. closed_at s value at) (decimal_at s at)

-- what ends a field: the text's end, a comma, or a line end; a CR without LF faults at the byte after it
unfoldable pub ending_at : List ℕ → ℕ → Step Ending
ending_at s at =
    pick (ltb at (length s))
    (pick (stands_at comma s at) (go Comma (at + 1))
    (pick (stands_at carriage_return s at) (pick (stands_at line_feed s (at + 1)) (go Line (at + 2)) (stop (BadText (at + 1))))
    (stop (BadText at))))
    (go Text at)

-- a comma where other fields follow in the line, and behind the last the end of the line or of the text
unfoldable pub fits : Bool → Ending → Bool
fits last Comma = not last
fits last Line = last
fits last Text = last

-- a stop that does not fit
unfoldable pub misfit : Bool → Ending → ℕ → Verdict
misfit last ending at = pick (fits last ending) Good (BadText at)

-- a field: its text up to a comma, line end or text end; its range; then whether that stop fits
unfoldable pub text_field : Bool → List ℕ → Wanted → ℕ → Step ℕ
text_field last s w at =
    value_at s at then λ value end.
    ending_at s end then λ ending next.
    unless (judge w at value or_else misfit last ending end) value next

-- the times of a line: one worst time per part, the last of them the last field of the line
unfoldable pub text_times : List ℕ → ℕ → ℕ → Step (List ℕ)
text_times s parts at =
    fields_at (text_field false s) (replicate (parts - 1) time) [] at then λ times at.
    text_field true s time at then λ last at.
    go (times ++ (last ∷ [])) at
