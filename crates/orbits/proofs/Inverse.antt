-- The inverse of a permutation of the numbers below N, as a function.
--
--   onto             a permutation below N has every number below N as a value
--   inverse          its inverse
--   inverse_bound, there_back, back_there   it stays below N and undoes the permutation, on both sides
use Prim.Native.Nat.{ℕ, ◌<◌}
use native.Mathlib.Decide.{dec_lt}
use mathlib.Core.Path.{◌≡◌, sym, ◌∙◌}
use Rattle.model.specs.Numbers.{iter}
use Rattle.orbits.specs.Permutation.{Perm}
use Rattle.orbits.proofs.Cycle.{comes_back, iter_bound, iter_out}

-- a number is its own last iterate's value
pub onto : (N : ℕ) (p : ℕ → ℕ) → Perm N p → (y : ℕ) → y < N → (x : ℕ) × (x < N) × (p x ≡ y)
onto N p perm y h = let (q, hq, back) = comes_back N p perm y h in (iter p q y, iter_bound N p perm q y h, sym (iter_out p q y) ∙ back)

module _ (N : ℕ) (p : ℕ → ℕ) (perm : Perm N p) where
  pick : (y : ℕ) → Dec (y < N) → ℕ
  pick y (yes h) = (onto N p perm y h).0
  pick y (no h) = 0

  pub inverse : ℕ → ℕ
  inverse y = pick y (dec_lt y N)

  inverse_is : (y : ℕ) → y < N → (inverse y < N) × (p (inverse y) ≡ y)
  unfolding inverse pick
  inverse_is y h = go (dec_lt y N)
    where
      go : (d : Dec (y < N)) → (pick y d < N) × (p (pick y d) ≡ y)
      go (yes k) = ((onto N p perm y k).1, (onto N p perm y k).2)
      go (no k) = absurd (k h)

  pub inverse_bound : (y : ℕ) → y < N → inverse y < N
  inverse_bound y h = (inverse_is y h).0

  pub back_there : (y : ℕ) → y < N → p (inverse y) ≡ y
  back_there y h = (inverse_is y h).1

  pub there_back : (i : ℕ) → i < N → inverse (p i) ≡ i
  there_back i h = let (l, e) = inverse_is (p i) (perm.bound i h) in perm.inj (inverse (p i)) i l h e
