-- The plan that is built from a balanced word is planar: its walk meets the word's darts, so the edges outside the tree match like the word's brackets.
--
--   built_mates    the mate of a position is its fellow in the word
--   built_chords   the edges outside the tree match like brackets
use Prim.Native.Nat.{ℕ, ◌<◌}
use native.Mathlib.Omega.{arith}
use mathlib.Core.Path.{◌≡◌, sym, ap, subst, ◌∙◌}
use mathlib.Core.Bool.{true}
use mathlib.Core.List.{List}
use lib.ListN.{length}
use borrow.Author.Tests.{not-true}
use Rattle.model.specs.Map.{darts, opposite}
use Rattle.model.specs.Traversal.{Letter}
use Rattle.words.specs.Word.{plan_of}
use Rattle.words.specs.Toured.{dart_at, letter_of, pos_of, mate_of, is_tree, is_chord, Brackets, Toured}
use Rattle.words.specs.Brackets.{letter}
use Rattle.words.specs.Position.{dart_no, Balance, Closes}
use Rattle.words.proofs.Plans.{rotation_length}
use Rattle.words.proofs.Mates.{χ, mate, mate_inv, χ-nested, χ-chord}
use Rattle.words.proofs.Darts.{dart_mate}
use Rattle.traversal.specs.Walked.{Walked}
use Rattle.building.proofs.Walk.{built_walk, built_dart}

module _ (w : List Letter) (b : Balance (letter w) (length w)) (low : Closes true (letter w) (length w)) (some : 0 < length w)
    (walked : Walked (plan_of w)) (t : Toured (plan_of w)) where
  abbrev N : ℕ
  N = length w

  abbrev ℓ : ℕ → Letter
  ℓ = letter w

  size : darts (plan_of w) ≡ N
  unfolding plan_of
  size = rotation_length w

  letter_is : (i : ℕ) → letter_of (plan_of w) i ≡ ℓ i
  unfolding letter_of
  letter_is i = ap (λ (v : List Letter). letter v i) (built_walk w b low some walked)

  dart_is : (i : ℕ) → i < N → dart_at (plan_of w) i ≡ dart_no ℓ i
  dart_is = built_dart w b low some walked

  pub built_mates : (i : ℕ) → i < N → mate_of (plan_of w) i ≡ mate ℓ N b i
  unfolding mate_of
  built_mates i h =
      let there = (mate_inv ℓ N b).bound i h in
      ap (pos_of (plan_of w)) (ap opposite (dart_is i h) ∙ sym (dart_mate ℓ N b i h) ∙ sym (dart_is (mate ℓ N b i) there))
      ∙ t.pos_dart (mate ℓ N b i) (omega (arith, size))

  chord_mate : (i : ℕ) → i < N → is_chord (letter_of (plan_of w) i) ≡ true → χ ℓ N b i ≡ mate_of (plan_of w) i
  chord_mate i h c = χ-chord ℓ N b i (ap is_tree (sym (letter_is i)) ∙ not-true _ c) ∙ sym (built_mates i h)

  pub built_chords : Brackets is_chord (plan_of w)
  built_chords i x h c l u d =
      let hi : i < N = omega (arith, size) in
      let end : mate_of (plan_of w) i < N = subst (λ (k : ℕ). k < N) (sym (built_mates i hi)) ((mate_inv ℓ N b).bound i hi) in
      let hx : x < N = omega arith in
      let e = chord_mate i hi c in
      let f = chord_mate x hx d in
      let r = χ-nested ℓ N b i hi (omega arith) x l (omega arith) in
      (omega arith, omega arith)
