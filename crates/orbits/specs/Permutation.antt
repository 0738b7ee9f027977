-- Permutations of the numbers below N, as functions.
--
--   Perm N p       p is a permutation of the numbers below N
--   swap a b       a and b change places
use Rattle.std.specs.Prelude.{ℕ, ◌<◌, ◌≡◌, cond, eqb}

-- it stays below N and is injective there
pub record Perm (N : ℕ) (p : ℕ → ℕ) : Type 0 where
  pub bound : (i : ℕ) → i < N → p i < N
  pub inj : (i j : ℕ) → i < N → j < N → p i ≡ p j → i ≡ j

abbrev pub swap : ℕ → ℕ → ℕ → ℕ
swap a b x = cond (eqb x a) b (cond (eqb x b) a x)
