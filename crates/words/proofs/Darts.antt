-- The standard darts along a balanced word ℓ of N letters: each dart below N stands at one position.
--
--   dart_perm      the darts at the positions are a permutation
--   dart_mate      the dart at the fellow is the opposite dart
--   dart_zero      the first is dart 0
--   half           half of the letters open
use Prim.Native.Nat.{ℕ, ◌+◌, ◌*◌, ◌<◌}
use mathlib.Core.Path.{◌≡◌, refl, ap, ◌∙◌}
use mathlib.Core.Bool.{true, false, true≢false, false≢true}
use mathlib.Core.List.{List, map}
use Rattle.model.specs.Map.{opposite}
use Rattle.model.specs.Traversal.{Letter, down, up, first, second, opens}
use Rattle.orbits.specs.Permutation.{Perm}
use Rattle.orbits.proofs.Match.{close_top}
use Rattle.words.specs.Word.{head}
use Rattle.words.specs.Toured.{is_tree}
use Rattle.words.specs.Brackets.{tree_kind, chord_kind, tree_word, chord_word}
use Rattle.words.specs.Position.{opened, dart_by, dart_no, Balance}
use Rattle.words.proofs.Mates.{mate, mate_inv, fellows, later, τ-tree, χ-chord}
use Rattle.words.proofs.Numbered.{Numbered, numbered_mate, numbered_perm, numbered_zero, numbered_half}

module _ (ℓ : ℕ → Letter) (N : ℕ) (b : Balance ℓ N) where
  begins : (i : ℕ) → opens (ℓ i) ≡ true → dart_no ℓ i ≡ 2 * opened ℓ i
  unfolding dart_no
  begins i = go (ℓ i)
    where
      go : (l : Letter) → opens l ≡ true → dart_by ℓ i l ≡ 2 * opened ℓ i
      go down o = refl
      go up o = absurd (false≢true o)
      go first o = refl
      go second o = absurd (false≢true o)

  ends : (i : ℕ) → i < N → opens (ℓ i) ≡ false → dart_no ℓ i ≡ 2 * opened ℓ (mate ℓ N b i) + 1
  unfolding dart_no
  ends i h = go (ℓ i) refl
    where
      go : (l : Letter) → ℓ i ≡ l → opens l ≡ false → dart_by ℓ i l ≡ 2 * opened ℓ (mate ℓ N b i) + 1
      go down e o = absurd (true≢false o)
      go up e o =
          ap (λ (s : List ℕ). 2 * head (map (opened ℓ) s) + 1) (close_top (tree_word ℓ) N b.trees i h (ap tree_kind e))
          ∙ ap (λ (k : ℕ). 2 * opened ℓ k + 1) (τ-tree ℓ N b i (ap is_tree e))
      go first e o = absurd (true≢false o)
      go second e o =
          ap (λ (s : List ℕ). 2 * head (map (opened ℓ) s) + 1) (close_top (chord_word ℓ) N b.chords i h (ap chord_kind e))
          ∙ ap (λ (k : ℕ). 2 * opened ℓ k + 1) (χ-chord ℓ N b i (ap is_tree e))

  numbered : Numbered ℓ N (mate ℓ N b) (dart_no ℓ)
  numbered = record { inv = mate_inv ℓ N b; fellows = fellows ℓ N b; later = later ℓ N b; begins = λ i h. begins i; ends = ends }

  pub dart_mate : (i : ℕ) → i < N → dart_no ℓ (mate ℓ N b i) ≡ opposite (dart_no ℓ i)
  dart_mate = numbered_mate ℓ N (mate ℓ N b) (dart_no ℓ) numbered

  pub dart_perm : Perm N (dart_no ℓ)
  dart_perm = numbered_perm ℓ N (mate ℓ N b) (dart_no ℓ) numbered

  pub dart_zero : 0 < N → dart_no ℓ 0 ≡ 0
  dart_zero = numbered_zero ℓ N (mate ℓ N b) (dart_no ℓ) numbered

  pub half : opened ℓ N + opened ℓ N ≡ N
  half = numbered_half ℓ N (mate ℓ N b) (dart_no ℓ) numbered
