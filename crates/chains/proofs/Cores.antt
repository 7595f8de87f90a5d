-- The cores of a chain's steps, in step order. Assumes nothing.
use Prim.Native.Nat.{ℕ, ◌+◌, ◌≤◌, ◌<◌}
use native.Mathlib.Numerals.{add-one}
use native.Mathlib.Omega.{arith}
use mathlib.Core.Path.{◌≡◌, ◌∙◌}
use mathlib.Core.List.{List, [], ◌∷◌}
use lib.ListN.{length, get_or, drop, length-map, drop_of_length-le, get_or-map}
use lib.Seq.{drop-cons}
use Rattle.chains.specs.declared.Spot.{Spot}
use Rattle.chains.specs.Promises.{no_spot, cores_in}

module _ (spots : List Spot) where
  -- one for each step
  pub cores-length : length (cores_in spots) ≡ length spots
  cores-length = length-map spots (λ s. s.core)

  module _ (i : ℕ) where
    -- at step i its core
    pub core_at : get_or (cores_in spots) i 0 ≡ (get_or spots i no_spot).core
    core_at = get_or-map (λ s. s.core) spots i no_spot

    -- from step i on: that one, and those behind it
    pub core-here : i < length spots → drop i (cores_in spots) ≡ (get_or spots i no_spot).core ∷ drop (i + 1) (cores_in spots)
    core-here h = drop-cons (cores_in spots) i 0 (omega (arith, cores-length)) ∙ rw (core_at, add-one)

    -- past the last step none
    pub no_core_lem : length spots ≤ i → drop i (cores_in spots) ≡ []
    no_core_lem h = drop_of_length-le (cores_in spots) {i = i} (omega (arith, cores-length))
