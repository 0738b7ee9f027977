-- The other dart of an edge, by its lowest bit.
--
--   crossed              the lowest bit turned
use Prim.Native.Nat.{ℕ, suc, ◌+◌, ◌-◌, ◌*◌, ◌/◌, ◌%◌}
use native.Mathlib.Omega.{arith}
use mathlib.Core.Path.{◌≡◌, ap₂, ◌∙◌}
use lib.Bits.{bit_xor, differ, xor_step, xor_zero_r}
use Rattle.model.specs.Map.{opposite}
use Rattle.orbits.proofs.Order.{lt_or_le}

pub crossed : (d : ℕ) → bit_xor d 1 ≡ opposite d
unfolding opposite
crossed d = lt_or_le (d % 2) 1
    (λ h. let e : d % 2 ≡ 0 = omega arith in by 0 e (omega arith))
    (λ h. let e : d % 2 ≡ 1 = omega arith in by 1 e (omega arith))
  where
    by : (r : ℕ) → d % 2 ≡ r → (d / 2) * 2 + differ r 1 ≡ suc d - 2 * (d % 2) → bit_xor d 1 ≡ suc d - 2 * (d % 2)
    by r e q = xor_step d 1 ∙ ap₂ (λ (x y : ℕ). x * 2 + differ y 1) (xor_zero_r (d / 2)) e ∙ q
