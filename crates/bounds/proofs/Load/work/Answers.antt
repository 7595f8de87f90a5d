-- `bounds::Load::work` meets its contract: the library's quotient rounded up is `up`, and it fits. Assumes nothing.
use Prim.Native.Nat.{ℕ, ◌+◌, ◌*◌, ◌/◌, ◌%◌, ◌<◌, min}
use native.Mathlib.Omega.{arith}
use native.Mathlib.Nat.{div-eq_of_lt-le, suc-mul}
use mathlib.Core.Path.{◌≡◌, sym, ap, ◌∙◌}
use Rattle.std.proofs.lemmas.Grind.{div_ceil_times}
use Rattle.model.specs.Bounds.{up}
use Rattle.bounds.proofs.Load.work.Goals as goal

-- the quotient rounded up, as the library has it
ceil-up : (x t : ℕ) → 0 < t → x / t + min 1 (x % t) ≡ up x t
unfolding up
ceil-up x t p =
    let b = div_ceil_times x t p in
    sym (div-eq_of_lt-le t (omega (arith, b.0, b.1)) (omega (arith, b.0, b.1, suc-mul (x / t + min 1 (x % t)) t)))

pub returns : goal.returns
returns c =
    let up_is : c.div_ceil.result ≡ up c.args.x c.args.self.period = c.div_ceil.ensures ∙ ceil-up _ _ (omega (arith, c.requires.0)) in
    ap (λ (n : ℕ). n * c.args.self.cost) up_is
