-- The model's B, windows and bounds are those of the equations, and no other numbers are. From the laws of `blocking`, of `least` and
-- of windows.
use Prim.Native.Nat.{ℕ, zero, suc, ◌+◌, ◌-◌, ◌*◌, ◌≤◌, ◌<◌}
use native.Mathlib.Nat.{le_antisymm}
use native.Mathlib.Omega.{arith}
use mathlib.Core.Path.{◌≡◌, sym, ap, subst, ◌∙◌}
use mathlib.Core.Logic.{⊎_elim, ◌↔◌}
use mathlib.Core.Bool.{true}
use mathlib.Core.List.{List}
use Rattle.lists.specs.Lists.{◌∈◌}
use Rattle.lists.proofs.Tests.{by_test, either}
use Rattle.lists.proofs.Members.{all-or-one}
use Rattle.std.specs.Prelude.{Some, None}
use Rattle.model.specs.Task.{Task, part, parts}
use Rattle.model.specs.Rows.{GoodTask, GoodCore}
use Rattle.model.specs.Least.{IsLeast, value, max_below}
use Rattle.model.specs.Bounds.{limit, cooperative, before, through, blocking, demand, window, jobs}
use Rattle.model.specs.Bounds.{preemptive_end, start, end_from, response, bound}
use Rattle.model.proofs.Blocking.{no_blocking, blocking-part, blocking-most, blocking_some}
use Rattle.model.proofs.Least.{least_at, least_none, least_is, says_same}
use Rattle.model.proofs.Exists.{the_window, finish_range, cooperative_range, finish-cooperative, finish-preemptive}
use Rattle.model.proofs.Responses.{response-at}
use Rattle.model.proofs.Rounding.{before_pos}
use Rattle.model.proofs.Rows.{period_pos, is_cooperative, is_preemptive, other_kind}
use Rattle.demands.specs.Equations.{IsLower, LongestLower, IsBlocking, IsWindow, end_side, end_from_side, EndsAt, IsBound, Equations}

module _ (rows : List Task) (t : Task) where
  -- with a longest lower part the model's B is that less one tick
  of-longest : cooperative t ≡ true → (p : ℕ) → LongestLower rows t p → blocking rows t ≡ p - 1
  of-longest c p longest =
      let at = longest.some in
      let most = blocking-most rows t (p - 1) (λ u n h r q. omega (arith, longest.each u (n, h) r q)) in
      omega (arith, most, at.4, blocking-part rows t c at.0 at.1.0 at.1.1 at.2)

  -- it is B
  blocking_says : IsBlocking rows t (blocking rows t)
  unfolding cooperative
  blocking_says =
      record {
        preemptive = λ k. no_blocking rows t (rw k);
        cooperative = λ k p longest. omega (arith, of-longest (rw k) p longest);
        alone = λ none. omega (arith, blocking-most rows t 0 (λ u n h. absurd (none u (n, h))));
      }

module _ (rows : List Task) (core : GoodCore rows) (t : Task) (m : t ∈ rows) where
  -- and B is one number
  one-blocking : (b : ℕ) → IsBlocking rows t b → blocking rows t ≡ b
  one-blocking b i =
      by_test (cooperative t)
      (λ c. ⊎_elim (λ none. alone (λ u l. absurd (omega (arith, none u l.0, l.1)))) (λ one. blocked c one.0 (one.1, one.2))
      (all-or-one (λ u. t.priority) (λ u. u.priority) rows))
      (λ c. no_blocking rows t c ∙ sym (i.preemptive (is_preemptive t (other_kind t (core.good t m) c))))
    where
      alone : ((u : Task) → IsLower rows t u → ⊥) → blocking rows t ≡ b
      alone none = (blocking_says rows t).alone none ∙ sym (i.alone none)

      blocked : cooperative t ≡ true → (v : Task) → IsLower rows t v → blocking rows t ≡ b
      blocked c v l =
          let at = blocking_some rows t core c v l.0 l.1 in
          let less = i.cooperative (is_cooperative t c) (suc (blocking rows t))
          (record {
            each = λ u k r q. blocking-part rows t c u k.0 k.1 r;
            some = (at.0, (at.1, at.2), at.3, at.4, at.5);
          }) in
          omega (arith, less)

-- two least solutions are the same
one-least : (g : ℕ → ℕ) (from limit x y : ℕ) → IsLeast g from limit x → IsLeast g from limit y → x ≡ y
one-least g from limit x y a b = let e = says_same g from limit (Some x) (Some y) a b in cc

module _ (rows : List Task) (t : Task) where
  -- the window found is the least positive length
  pub window_is : (L : ℕ) → (window rows t ≡ Some L) ↔ IsWindow rows t L
  unfolding window demand before
  window_is L = (λ e. least_at (demand rows t) 1 limit e, λ l. least_is (demand rows t) 1 limit (Some L) l)

  -- a part of a job ends once
  ends_once : GoodTask t → (r j f g : ℕ) → EndsAt rows t r j f → EndsAt rows t r j g → f ≡ g
  ends_once good r j f g a b =
      by_test (cooperative t)
      (λ c.
      (let k = is_cooperative t c in
      let x = a.cooperative k in
      let y = b.cooperative k in
      let s : x.0 ≡ y.0 = one-least _ 0 limit x.0 y.0 x.1 y.1 in
      one-least (end_from_side rows t r y.0) (y.0 + part t r) limit f g
      (subst (λ (s : ℕ). IsLeast (end_from_side rows t r s) (s + part t r) limit f) s x.2) y.2))
      (λ c.
      (let k = is_preemptive t (other_kind t good c) in
      one-least (end_side rows t r j) 1 limit f g (a.preemptive k) (b.preemptive k)))

  -- so a bound is one number
  bound-most : GoodTask t → (L r b c : ℕ) → IsBound rows t L r b → IsBound rows t L r c → b ≤ c
  bound-most good L r b c x y =
      let top = x.some in
      let same = y.each top.0 top.1 in
      let end : top.2 ≡ same.0 = ends_once good r top.0 top.2 same.0 top.3 same.1 in
      omega (arith, same.2, top.4, ap (λ (f : ℕ). f - top.0 * t.period) end)

  -- both ways
  pub one-bound : GoodTask t → (L r b c : ℕ) → IsBound rows t L r b → IsBound rows t L r c → b ≡ c
  one-bound good L r b c x y = le_antisymm (bound-most good L r b c x y) (bound-most good L r c b y x)

-- the largest of some numbers is one of them
largest_some : (h : ℕ → ℕ) (n : ℕ) → 0 < n → (i : ℕ) × (i < n) × (max_below h n ≡ h i)
unfolding max_below
largest_some h zero p = absurd (omega arith)
largest_some h (suc zero) p = (0, omega arith, omega arith)
largest_some h (suc (suc n)) p =
    let r = largest_some h (suc n) (omega arith) in
    ⊎_elim (λ less. (suc n, omega arith, omega (arith, r.2))) (λ more. (r.0, omega (arith, r.1), omega (arith, r.2)))
    (either (h r.0) (h (suc n)))

module _ (rows : List Task) (core : GoodCore rows) (t : Task) (m : t ∈ rows) (L : ℕ) (w : window rows t ≡ Some L) (r : ℕ)
    (hr : r < parts t) where
  -- as many jobs as are looked at
  all-jobs : jobs rows t ≡ before t L
  unfolding jobs value
  all-jobs = rw w

  module _ (j : ℕ) (hj : j < before t L) where
    -- the end found
    f : ℕ
    f = (finish_range rows core t m L w r j hr hj).f

    -- is that of the equations
    f_ends : EndsAt rows t r j f
    unfolding f preemptive_end start end_from before through cooperative
    f_ends =
        let at = finish_range rows core t m L w r j hr hj in
        record {
          preemptive = λ k. least_at _ 1 limit (sym (finish-preemptive rows t r j (rw k)) ∙ at.ends);
          cooperative =
              λ k.
              (let c : cooperative t ≡ true = rw k in
              let s = cooperative_range rows core t m L w r j hr hj c in
              let from = finish-cooperative rows t r j c ∙ ap (end_from rows t r j) s.starts in
              (s.s, least_at _ 0 limit s.starts, least_at _ _ limit (sym from ∙ at.ends)));
          released = omega (arith, at.late);
        }

    -- and the response goes by it
    f_response : response rows t r j ≡ f - j * t.period
    unfolding f response value
    f_response = rw (finish_range rows core t m L w r j hr hj).ends

  -- it is one of those looked at
  looked : (j : ℕ) → j < before t L → response rows t r j ≤ bound rows t r
  looked j h = response-at rows t r j (omega (arith, all-jobs))

  -- the bound is the largest
  pub bound_is : IsBound rows t L r (bound rows t r)
  unfolding before bound
  bound_is =
      let top = largest_some (response rows t r) (jobs rows t) (omega (arith, all-jobs, positive)) in
      record {
        each = λ j h. (f j h, f_ends j h, omega (arith, looked j h, f_response j h));
        some = at_top top.0 (omega (arith, all-jobs, top.1)) top.2;
      }
    where
      positive : 0 < before t L
      positive = before_pos t (period_pos rows core t m) L (the_window rows core t m L w).above

      at_top : (j : ℕ) → j < before t L → bound rows t r ≡ response rows t r j
          → (j : ℕ) × (j < before t L) × (f : ℕ) × EndsAt rows t r j f × (bound rows t r ≡ f - j * t.period)
      at_top j h e = (j, h, f j h, f_ends j h, e ∙ f_response j h)

-- the model's B, window and bounds are those of the equations
pub equations : (rows : List Task) → GoodCore rows → (t : Task) → t ∈ rows → Equations rows t
unfolding window demand before
equations rows core t m =
    record {
      blocks = λ b. (λ e. subst (IsBlocking rows t) e (blocking_says rows t), one-blocking rows core t m b);
      found = window_is rows t;
      none = (λ e. least_none (demand rows t) 1 limit e, λ n. least_is (demand rows t) 1 limit None n);
      bounds = λ L w r h b. (λ e. subst (IsBound rows t L r) e (is L w r h), λ i. one-bound rows t (core.good t m) L r _ b (is L w r h) i);
    }
  where
    is : (L : ℕ) → IsWindow rows t L → (r : ℕ) → r < parts t → IsBound rows t L r (bound rows t r)
    is L w r h = bound_is rows core t m L ((window_is rows t L).1 w) r h
