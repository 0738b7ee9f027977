-- A test as a number.
--
--   bit b        1 where the test passes, else 0
--   bit_same     tests that pass together have one number
--   bit_in       and the other way round
use Prim.Native.Nat.{ℕ}
use native.Mathlib.Omega.{arith}
use mathlib.Core.Path.{◌≡◌, refl}
use mathlib.Core.Bool.{Bool, true, false}
use lib.Dec.{T}

-- a test as a number
abbrev pub bit : Bool → ℕ
bit true = 1
bit false = 0

pub bit_same : (a b : Bool) → (T a → T b) → (T b → T a) → bit a ≡ bit b
bit_same true true f g = refl
bit_same true false f g = absurd (f tt)
bit_same false true f g = absurd (g tt)
bit_same false false f g = refl

pub bit_in : (a b : Bool) → bit a ≡ bit b → T b → T a
bit_in true b e t = tt
bit_in false true e t = absurd (omega arith)
bit_in false false e t = t
