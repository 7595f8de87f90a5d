-- The work of rows: a sum, never falling, bounded, and the work of the rows of a table that they stand for.
use Prim.Native.Nat.{ℕ, suc, ◌*◌, ◌≤◌, ◌<◌}
use mathlib.Core.Path.{◌≡◌, refl, ap}
use mathlib.Core.List.Memᴰ
use mathlib.Core.List.{List, [], ◌∷◌}
use mathlib.Core.Bool.{Bool}
use mathlib.Core.Logic.{⊎_elim}
use native.Mathlib.Nat.{le_refl, le_trans, add-le-add, mul-le-mul, mul-le-mul_right, le-div_iff_mul-le}
use native.Mathlib.Omega.{arith}
use lib.ListN.{length, get_or, length-map}
use lib.Dec.{ltb}
use borrow.Author.Tests.{le-ltb}
use Rattle.std.specs.List.{All, sum_by}
use Rattle.std.proofs.lemmas.List.Recursion.{is_sum_by}
use Rattle.std.proofs.lemmas.List.Sums.{sum_by-le, sum_by-le-sum_by}
use Rattle.std.proofs.lemmas.List.Elements.{All-nil, All-cons, All-head}
use Rattle.lists.specs.Lists.{◌∈◌, keep, total}
use Rattle.lists.proofs.Keep.{kept, keep-length, keep_fewer}
use Rattle.lists.proofs.Tests.{either}
use Rattle.model.specs.Task.{Task, cost}
use Rattle.model.specs.Rows.{GoodTask, GoodCore}
use Rattle.model.specs.Bounds.{up, before, higher}
use Rattle.model.proofs.Climb.{Mono}
use Rattle.model.proofs.Rounding.{up_is, up_mono, up_small, before_is}
use Rattle.model.proofs.Rows.{higher_in}
use Rattle.model.proofs.Parts.{cost-most}
use Rattle.bounds.specs.declared.Load.{Load}
use Rattle.bounds.specs.Loads.{load, loads, InRange, Summable, work_at, side}

-- a row's work before tick x
abbrev pub own_work : ℕ → Load → ℕ
own_work x l = up x l.period * l.cost

-- the work of rows as a sum
pub work_sum : (rows : List Load) (x : ℕ) → work_at rows x ≡ sum_by (own_work x) rows
unfolding work_at
work_sum rows x = is_sum_by (λ ls. work_at ls x) (own_work x) refl (λ l ls. refl) rows

-- rows in range: their work fits in 61 bits
pub work-fits : (rows : List Load) (x : ℕ) → Summable rows → x ≤ 16777215 → sum_by (own_work x) rows ≤ 2305842871774740480
work-fits rows x r h =
    let each : All (λ l. own_work x l ≤ 16777215 * 1073741760) rows =
    (λ k d i. mul-le-mul (le_trans (up_small x _ (r.ranged k d i).0) h) (r.ranged k d i).1) in
    omega (arith, sum_by-le (own_work x) (16777215 * 1073741760) rows each, r.few)

-- the work never falls
work_rises : (rows : List Load) → Mono (work_at rows)
work_rises rows x y h =
    rw (work_sum rows x, work_sum rows y)
    (sum_by-le-sum_by (own_work x) (own_work y) rows (λ l. mul-le-mul_right l.cost (up_mono x y l.period h)))

-- nor does a search's right side
pub side_mono : (rows : List Load) (base : ℕ) → Mono (side rows base)
side_mono rows base x y h = add-le-add (le_refl base) (work_rises rows x y h)

-- the work of loads is the work of the rows they stand for
pub work-loads : (us : List Task) (x : ℕ) → work_at (loads us) x ≡ total (λ u. before u x * cost u) us
unfolding work_at total
work-loads [] x = refl
work-loads (u ∷ us) x = omega (arith, ap (λ (n : ℕ). n * cost u) (before_is u x), work-loads us x)

-- good rows are in range
loads_ranged : (us : List Task) → ((u : Task) → u ∈ us → GoodTask u) → All InRange (loads us)
loads_ranged [] good = All-nil InRange
loads_ranged (u ∷ us) good =
    let own : GoodTask u = good u (Memᴰ.head refl) in
    All-cons InRange (load u) (loads us) (own.period.least, cost-most u own) (loads_ranged us (λ v m. good v (Memᴰ.tail m)))

-- few good rows can be summed
pub summable_of : (us : List Task) → length us ≤ 64 → ((u : Task) → u ∈ us → GoodTask u) → Summable (loads us)
summable_of us few good = record { few = omega (arith, length-map us load); ranged = loads_ranged us good }

-- so can those kept of a core's rows
pub summable_keep : (rows : List Task) → GoodCore rows → (p : Task → Bool) → Summable (loads (keep p rows))
summable_keep rows core p =
    summable_of (keep p rows) (le_trans (keep-length p rows) core.few) (λ u m. core.good u (kept p rows u m).0)

-- and a row of a core with the higher rows
pub summable_own : (rows : List Task) → GoodCore rows → (t : Task) → t ∈ rows → Summable (loads (t ∷ higher rows t))
unfolding higher
summable_own rows core t m =
    summable_of (t ∷ higher rows t) few
    (λ u n. ⊎_elim (λ e. rw e (core.good t m)) (λ k. core.good u (higher_in rows t u k).0) (Memᴰ.cases_cons n))
  where
    few : suc (length (higher rows t)) ≤ 64
    few =
        le_trans
        (keep_fewer (λ u. ltb t.priority u.priority) rows t m (le-ltb t.priority t.priority (le_refl _)))
        core.few

-- the first row's search begins at its C, which the right side takes no lower
pub own_begins : (rows : List Load) (d : Load) (base : ℕ) → Summable rows → 0 < length rows
    → (get_or rows 0 d).cost ≤ side rows base (get_or rows 0 d).cost
unfolding work_at
own_begins [] d base r h = absurd (omega arith)
own_begins (l ∷ more) d base r h =
    let own : InRange l = All-head InRange l more r.ranged in
    let some : 0 < l.cost → 1 * l.cost ≤ up l.cost l.period * l.cost =
    (λ k. mul-le-mul_right l.cost (rw (up_is l.cost l.period) ((le-div_iff_mul-le own.0).1 (omega (arith, own.0))))) in
    ⊎_elim (λ k. omega (arith, some k)) (λ k. omega arith) (either 0 l.cost)
