-- What is said exactly if a rule says it, and what a refused read gives, of a file or of a text. Assumes nothing.
use mathlib.Core.Path.{◌≡◌, refl, sym, subst, ◌∙◌}
use mathlib.Core.Logic.{◌↔◌}
use mathlib.Core.List.{List, []}
use Rattle.model.specs.Task.{Task}
use Rattle.table.specs.declared.Verdict.{Verdict}
use Rattle.table.specs.Verdicts.{code_of}
use Rattle.table.specs.Memory.{stored}
use Rattle.fields.specs.Stepping.{Step, stop, go}
use Rattle.files.specs.Reading.{loaded}

-- where what a rule says is said, and some rule holds, a verdict is said exactly if its rule holds
pub said_exactly : {Rule : Verdict → Type 0} {u : Verdict} → ((v : Verdict) → Rule v → u ≡ v) → (v : Verdict) × Rule v
    → (v : Verdict) → (u ≡ v) ↔ Rule v
said_exactly {Rule} said some v = (λ e. subst Rule (sym (said some.0 some.1) ∙ e) some.1, said v)

-- a refused read gives zeros
pub zeros_said : (d : Step (List Task)) → (code_of (loaded d).verdict ≡ 0 → ⊥) → (loaded d).table ≡ stored []
zeros_said (stop v) n = refl
zeros_said (go tasks at) n = absurd (n refl)
