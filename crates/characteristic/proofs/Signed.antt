-- Small signed numbers: a test of the bits is a test of the number.
--
--   bits_is, bits_not    the number is n, and it is not
use mathlib.Core.Path.{◌≡◌, refl}
use mathlib.Core.Bool.{true, false}
use Prim.Native.Nat.{ℕ, ◌^◌, ◌<◌}
use native.Mathlib.Omega.{arith}
use lib.IntN.{ℤ, pos, negsuc}
use Rattle.model.specs.Map.{is}
use borrow.Author.Tests.{eq-eqb, ne_eqb}
use mir.Syntax.{w32}
use mir.Val.{of_z, SFits}

-- a test `x == n` of a signed x is a fact of the bits: turned into the spec's test
pub bits_is : (z : ℤ) (n : ℕ) → n < 2 ^ 31 → SFits w32 z → of_z w32 z ≡ n → is z n ≡ true
bits_is (pos m) n l s e = eq-eqb m n e
bits_is (negsuc m) n l s e = let b = s.sfits in let x : ⊥ = omega arith in absurd x

pub bits_not : (z : ℤ) (n : ℕ) → (of_z w32 z ≡ n → ⊥) → is z n ≡ false
bits_not (pos m) n d = ne_eqb m n d
bits_not (negsuc m) n d = refl
