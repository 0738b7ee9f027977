-- Darts along N positions with the letters ℓ and the mates m: the e-th edge to open has dart 2e where it opens and 2e + 1 where it ends.
--
--   Numbered ℓ N m x   x i is the dart at position i
--   numbered_mate      the dart at the mate is the opposite dart
--   numbered_perm      each dart below N stands at one position
--   numbered_zero      the first is dart 0
--   numbered_half      half of the letters open
use Prim.Native.Nat.{ℕ, ◌+◌, ◌*◌, ◌<◌}
use native.Mathlib.Omega.{arith}
use mathlib.Core.Path.{◌≡◌, refl, sym, ap, subst, ◌∙◌}
use mathlib.Core.Bool.{Bool, true, false}
use lib.Dec.{ltb}
use borrow.Author.Tests.{lt-ltb, le-ltb}
use Rattle.model.specs.Numbers.{count}
use Rattle.model.specs.Map.{opposite}
use Rattle.model.specs.Traversal.{Letter, opens}
use Rattle.model.proofs.Opposite.{opposite_even, opposite_odd}
use Rattle.orbits.specs.Permutation.{Perm}
use Rattle.orbits.specs.Chord.{Involution, opener, chords}
use Rattle.orbits.proofs.Order.{tri}
use Rattle.orbits.proofs.Tally.{count_ext, count_below}
use Rattle.orbits.proofs.Chord.{μ-inj}
use Rattle.orbits.proofs.Euler.{Free, chords_half}
use Rattle.words.specs.Toured.{fellow}
use Rattle.words.specs.Position.{opened}
use Rattle.words.proofs.Letters.{fellow_opens, fellow_closes}

pub record Numbered (ℓ : ℕ → Letter) (N : ℕ) (m x : ℕ → ℕ) : Type 0 where
  pub inv : Involution N m
  pub fellows : (i : ℕ) → i < N → ℓ (m i) ≡ fellow (ℓ i)
  pub later : (i : ℕ) → i < N → opens (ℓ i) ≡ true → i < m i
  pub begins : (i : ℕ) → i < N → opens (ℓ i) ≡ true → x i ≡ 2 * opened ℓ i
  pub ends : (i : ℕ) → i < N → opens (ℓ i) ≡ false → x i ≡ 2 * opened ℓ (m i) + 1

module _ (ℓ : ℕ → Letter) (N : ℕ) (m x : ℕ → ℕ) (n : Numbered ℓ N m x) where
  opens_mate : (i : ℕ) → i < N → opens (ℓ i) ≡ false → opens (ℓ (m i)) ≡ true
  opens_mate i h o = ap opens (n.fellows i h) ∙ fellow_opens (ℓ i) o

  earlier : (i : ℕ) → i < N → opens (ℓ i) ≡ false → m i < i
  earlier i h o = subst (λ (k : ℕ). m i < k) (n.inv.back i h) (n.later (m i) (n.inv.bound i h) (opens_mate i h o))

  pub numbered_mate : (i : ℕ) → i < N → x (m i) ≡ opposite (x i)
  numbered_mate i h = go (opens (ℓ i)) refl
    where
      there : m i < N
      there = n.inv.bound i h

      go : (c : Bool) → opens (ℓ i) ≡ c → x (m i) ≡ opposite (x i)
      go true o =
          n.ends (m i) there (ap opens (n.fellows i h) ∙ fellow_closes (ℓ i) o) ∙ ap (λ (k : ℕ). 2 * opened ℓ k + 1) (n.inv.back i h)
          ∙ sym (opposite_even (opened ℓ i)) ∙ ap opposite (sym (n.begins i h o))
      go false o = n.begins (m i) there (opens_mate i h o) ∙ sym (opposite_odd (opened ℓ (m i))) ∙ ap opposite (sym (n.ends i h o))

  -- ---- they are the darts below N

  opener_opens : (i : ℕ) → i < N → opener m i ≡ opens (ℓ i)
  opener_opens i h = go (opens (ℓ i)) refl
    where
      go : (c : Bool) → opens (ℓ i) ≡ c → ltb i (m i) ≡ c
      go true o = lt-ltb i (m i) (n.later i h o)
      go false o = le-ltb i (m i) (omega (arith, earlier i h o))

  mate_free : Free N m
  mate_free i h e = go (opens (ℓ i)) refl
    where
      go : (c : Bool) → opens (ℓ i) ≡ c → ⊥
      go true o = omega (arith, n.later i h o)
      go false o = omega (arith, earlier i h o)

  pub numbered_half : opened ℓ N + opened ℓ N ≡ N
  unfolding opened chords
  numbered_half = omega (arith, chords_half N m n.inv mate_free, count_ext (opener m) (λ i. opens (ℓ i)) N opener_opens)

  opened_lt : (i j : ℕ) → i < j → opens (ℓ i) ≡ true → opened ℓ i < opened ℓ j
  unfolding opened
  opened_lt i j = count_below (λ k. opens (ℓ k)) i j

  opened_inj : (i j : ℕ) → opens (ℓ i) ≡ true → opens (ℓ j) ≡ true → opened ℓ i ≡ opened ℓ j → i ≡ j
  opened_inj i j o p e = tri i j (λ l. absurd (omega (arith, opened_lt i j l o))) (λ q. q) (λ g. absurd (omega (arith, opened_lt j i g p)))

  bound : (i : ℕ) → i < N → x i < N
  bound i h = go (opens (ℓ i)) refl
    where
      go : (c : Bool) → opens (ℓ i) ≡ c → x i < N
      go true o = omega (arith, n.begins i h o, opened_lt i N h o, numbered_half)
      go false o = omega (arith, n.ends i h o, opened_lt (m i) N (n.inv.bound i h) (opens_mate i h o), numbered_half)

  inj : (i j : ℕ) → i < N → j < N → x i ≡ x j → i ≡ j
  inj i j hi hj e = go (opens (ℓ i)) (opens (ℓ j)) refl refl
    where
      go : (c d : Bool) → opens (ℓ i) ≡ c → opens (ℓ j) ≡ d → i ≡ j
      go true true o p = opened_inj i j o p (omega (arith, n.begins i hi o, n.begins j hj p))
      go true false o p = absurd (omega (arith, n.begins i hi o, n.ends j hj p))
      go false true o p = absurd (omega (arith, n.ends i hi o, n.begins j hj p))
      go false false o p =
          μ-inj N m n.inv i j hi hj
          (opened_inj (m i) (m j) (opens_mate i hi o) (opens_mate j hj p) (omega (arith, n.ends i hi o, n.ends j hj p)))

  pub numbered_perm : Perm N x
  numbered_perm = record { bound = bound; inj = inj }

  pub numbered_zero : 0 < N → x 0 ≡ 0
  unfolding opened count
  numbered_zero h = go (opens (ℓ 0)) refl
    where
      go : (c : Bool) → opens (ℓ 0) ≡ c → x 0 ≡ 0
      go true o = n.begins 0 h o
      go false o = absurd (omega (arith, earlier 0 h o))
