-- The two chord diagrams of a traversal, of the tree edges and of the others: its matchings of positions.
--
--   tree_mates p        each position of a tree edge with its mate, the others with themselves
--   chord_mates p       each position of another edge with its mate, those of the tree with themselves
--   tree_mates_lem, chord_mates_lem   they are the matchings of the two parts
--   nested_trees, nested_chords   a nested diagram gives brackets
--   chords_nested      and brackets give a nested diagram of the others
use Prim.Native.Nat.{ℕ, ◌<◌}
use mathlib.Core.Path.{◌≡◌, sym, ap, ◌∙◌}
use mathlib.Core.Bool.{Bool, true, false, not, cond, not-not}
use Rattle.model.specs.Map.{Plan, darts, opposite, dart_count_fits}
use Rattle.model.specs.Traversal.{Letter}
use Rattle.orbits.specs.Chord.{Nested}
use Rattle.orbits.specs.Tour.{diagram, rest}
use Rattle.orbits.proofs.Chord.{nested_ext}
use Rattle.words.specs.Toured.{dart_at, letter_of, pos_of, mate_of, is_tree, is_chord, matching, Brackets, Toured}
use Rattle.words.proofs.Letters.{tree_fellow}
use Rattle.words.proofs.OpenEdges.{chord_whole, matching_in, matching_out, matching_inv, brackets_nested, nested_brackets}
use Rattle.planarity.proofs.Touring.{tree_dart}

abbrev pub tree_mates : Plan → ℕ → ℕ
tree_mates p = diagram opposite (rest (tree_dart p)) (pos_of p) (dart_at p)

abbrev pub chord_mates : Plan → ℕ → ℕ
chord_mates p = diagram opposite (tree_dart p) (pos_of p) (dart_at p)

module _ (p : Plan) (t : Toured p) where
  -- a position that the diagram leaves alone, and one that it takes to its mate
  mates : (part : Letter → Bool) (i : ℕ) → i < darts p → (b : Bool) → part (letter_of p i) ≡ b
      → pos_of p (cond (not b) (dart_at p i) (opposite (dart_at p i))) ≡ matching part p i
  unfolding mate_of
  mates part i h true e = sym (matching_in part p i e)
  mates part i h false e = t.pos_dart i h ∙ sym (matching_out part p i e)

  tree_at : (i : ℕ) → i < darts p → tree_dart p (dart_at p i) ≡ is_tree (letter_of p i)
  tree_at i h = ap (λ (j : ℕ). is_tree (letter_of p j)) (t.pos_dart i h)

  pub tree_mates_lem : (i : ℕ) → i < darts p → tree_mates p i ≡ matching is_tree p i
  tree_mates_lem i h = mates is_tree i h (tree_dart p (dart_at p i)) (sym (tree_at i h))

  pub chord_mates_lem : (i : ℕ) → i < darts p → chord_mates p i ≡ matching is_chord p i
  chord_mates_lem i h =
      ap (λ (b : Bool). pos_of p (cond b (dart_at p i) (opposite (dart_at p i)))) (sym (not-not (tree_dart p (dart_at p i))))
      ∙ mates is_chord i h (not (tree_dart p (dart_at p i))) (ap not (sym (tree_at i h)))

  module _ (fits : dart_count_fits (darts p) ≡ true) where
    pub nested_trees : Nested (tree_mates p) (darts p) → Brackets is_tree p
    nested_trees n = nested_brackets is_tree tree_fellow p t fits
        (nested_ext (darts p) (matching is_tree p) (tree_mates p) (λ i h. sym (tree_mates_lem i h)) (matching_inv is_tree tree_fellow p t fits).bound n)

    pub nested_chords : Nested (chord_mates p) (darts p) → Brackets is_chord p
    nested_chords n = nested_brackets is_chord chord_whole p t fits
        (nested_ext (darts p) (matching is_chord p) (chord_mates p) (λ i h. sym (chord_mates_lem i h)) (matching_inv is_chord chord_whole p t fits).bound n)

    pub chords_nested : Brackets is_chord p → Nested (chord_mates p) (darts p)
    chords_nested b =
        let inv = matching_inv is_chord chord_whole p t fits in
        nested_ext (darts p) (chord_mates p) (matching is_chord p) chord_mates_lem (λ i h. rw (chord_mates_lem i h) (inv.bound i h))
        (brackets_nested is_chord chord_whole p t fits b)
