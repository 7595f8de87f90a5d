-- Document 01, codes 4, 5 and 6: the row named is the first row that clashes with an earlier row.
use Rattle.std.specs.Prelude.{ℕ, zero, suc, Bool, ◌&&◌, ◌||◌, List, [], ◌∷◌, ◌++◌, length, eqb, ltb}
use Rattle.lists.specs.Lists.{pick, any}
use Rattle.table.specs.declared.Row.{Row}
use Rattle.table.specs.Rules.{Rule}
use Rattle.table.specs.Rules as R
use Rattle.table.specs.declared.Verdict.{Verdict}
use Rattle.table.specs.declared.Verdict.TheVariants.{Good, IdTwice, PriorityTwice, KindsCrossed}
use Rattle.table.specs.Verdicts.{◌or_else◌}

-- one row is cooperative, the other preemptive, and the first higher
unfoldable pub coop_above : Row → Row → Bool
coop_above a b = eqb a.kind 1 && (eqb b.kind 0 && ltb b.priority a.priority)

-- a row and an earlier one: the same id; the same core and priority; on one core, the cooperative one higher
unfoldable pub breaks : Rule → Row → Row → Bool
breaks R.SameId r earlier = eqb earlier.id r.id
breaks R.SamePriority r earlier = eqb earlier.core r.core && eqb earlier.priority r.priority
breaks R.KindsCrossed r earlier = eqb earlier.core r.core && (coop_above r earlier || coop_above earlier r)

-- how many rows stand before the first that clashes with an earlier one; all of them where none does
unfoldable pub clash_after : {A : Type 0} → (A → A → Bool) → List A → List A → ℕ
clash_after f earlier [] = zero
clash_after f earlier (r ∷ rs) = pick (any (f r) earlier) zero (suc (clash_after f (earlier ++ (r ∷ [])) rs))

abbrev pub clash : {A : Type 0} → (A → A → Bool) → List A → ℕ
clash f rows = clash_after f [] rows

-- the code of each rule, with the row
abbrev pub rule_verdict : Rule → ℕ → Verdict
rule_verdict R.SameId row = IdTwice row
rule_verdict R.SamePriority row = PriorityTwice row
rule_verdict R.KindsCrossed row = KindsCrossed row

unfoldable pub broken : Rule → List Row → Verdict
broken rule rows = pick (ltb (clash (breaks rule) rows) (length rows)) (rule_verdict rule (clash (breaks rule) rows)) Good

-- 4 over the whole table, then 5, then 6
unfoldable pub clash_of : List Row → Verdict
clash_of rows = broken R.SameId rows or_else broken R.SamePriority rows or_else broken R.KindsCrossed rows
