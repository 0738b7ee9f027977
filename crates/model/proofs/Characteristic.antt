-- A map is planar exactly when its vertices and faces are two more than its edges.
--
--   Difference z a b     the integer z is a minus b
--   planar_two           vertices minus edges plus faces is 2: in plain numbers
--   two_planar           and back
use Prim.Native.Nat.{ℕ, zero, suc, ◌+◌, ◌-◌}
use native.Mathlib.Omega.{arith}
use mathlib.Core.Path.{◌≡◌, refl}
use mathlib.Core.Bool.{Bool, true, false, cond, false≢true}
use mathlib.Core.List.{List}
use lib.Dec.{ltb}
use lib.IntN.{ℤ, pos, negsuc, ◌+ℤ◌, ◌-ℤ◌, sub_ℕ}
use borrow.Author.Tests.{ltb-true, ltb-false, eqb-true, eq-eqb}
use Rattle.model.specs.Map.{edges, vertices, faces, is, characteristic, planar}

abbrev pub Difference : ℤ → ℕ → ℕ → Type 0
Difference (pos k) a b = b + k ≡ a
Difference (negsuc k) a b = a + suc k ≡ b

sub_difference : (a b c d : ℕ) → a + d ≡ c + b → Difference (sub_ℕ a b) c d
sub_difference a b c d e = go (ltb a b) refl
  where
    go : (t : Bool) → ltb a b ≡ t → Difference (cond t (negsuc (b - suc a)) (pos (a - b))) c d
    go true l = let h = ltb-true a b l in omega arith
    go false l = let h = ltb-false a b l in omega arith

less : (v e : ℕ) → Difference (pos v -ℤ pos e) v e
less v zero = omega arith
less v (suc e) = sub_difference v (suc e) v (suc e) refl

more : (z : ℤ) (a b f : ℕ) → Difference z a b → Difference (z +ℤ pos f) (a + f) b
more (pos k) a b f d = omega arith
more (negsuc k) a b f d = sub_difference f (suc k) (a + f) b (omega arith)

is_two : (z : ℤ) (a b : ℕ) → Difference z a b → is z 2 ≡ true → a ≡ b + 2
is_two (pos k) a b d e = let h = eqb-true k 2 e in omega arith
is_two (negsuc k) a b d e = absurd (false≢true e)

two_is : (z : ℤ) (a b : ℕ) → Difference z a b → a ≡ b + 2 → is z 2 ≡ true
two_is (pos k) a b d e = eq-eqb k 2 (omega arith)
two_is (negsuc k) a b d e = absurd (omega arith)

module _ (rot : List ℕ) where
  all : Difference (characteristic rot) (vertices rot + faces rot) (edges rot)
  unfolding characteristic
  all = more (pos (vertices rot) -ℤ pos (edges rot)) (vertices rot) (edges rot) (faces rot) (less (vertices rot) (edges rot))

  pub planar_two : planar rot ≡ true → vertices rot + faces rot ≡ edges rot + 2
  unfolding planar
  planar_two = is_two (characteristic rot) (vertices rot + faces rot) (edges rot) all

  pub two_planar : vertices rot + faces rot ≡ edges rot + 2 → planar rot ≡ true
  unfolding planar
  two_planar = two_is (characteristic rot) (vertices rot + faces rot) (edges rot) all
