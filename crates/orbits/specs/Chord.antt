-- An involution μ on the positions below N, read as a chord diagram: a fixed point is a tree position, any other position is the opening or the
-- closing end of a chord. The faces are the cycles of φ, which crosses the chord and then goes one position on. All of it computes. Assumes nothing.
--
--   Involution N μ   μ stays below N and undoes itself there
--   opener μ a       a chord opens at a
--   chords μ N       how many chords there are
--   next N i         one position on, round the circle of N
--   φ μ N i          one step of a face
--   faces μ N        how many faces there are
--   Nested μ N       what lies under a chord is matched under that chord
use Rattle.std.specs.Prelude.{ℕ, zero, suc, ◌<◌, ◌≡◌, Bool, cond, ltb}
use Rattle.model.specs.Numbers.{count, cycles}

pub record Involution (N : ℕ) (μ : ℕ → ℕ) : Type 0 where
  pub bound : (i : ℕ) → i < N → μ i < N
  pub back : (i : ℕ) → i < N → μ (μ i) ≡ i

-- a is where a chord opens
abbrev pub opener : (ℕ → ℕ) → ℕ → Bool
opener μ a = ltb a (μ a)

-- how many chords there are
unfoldable pub chords : (ℕ → ℕ) → ℕ → ℕ
chords μ N = count (opener μ) N

-- one position on, round the circle of N
abbrev pub next : ℕ → ℕ → ℕ
next N i = cond (ltb (suc i) N) (suc i) zero

-- the face permutation
unfoldable pub φ : (ℕ → ℕ) → ℕ → ℕ → ℕ
φ μ N i = next N (μ i)

-- how many faces there are
unfoldable pub faces : (ℕ → ℕ) → ℕ → ℕ
faces μ N = cycles (φ μ N) N

-- what lies under a chord is matched under that chord: this is what a stack machine needs
abbrev pub Nested : (ℕ → ℕ) → ℕ → Type 0
Nested μ N = (a : ℕ) → a < N → a < μ a → (x : ℕ) → a < x → x < μ a → (a < μ x) × (μ x < μ a)
