-- The traversal is a tour of the map that crosses the tree edges.
--
--   tree_dart p d      the letter of dart d is of a tree edge
--   step_on           it goes one position on, and from the last to the first
--   tour              the tour
use Prim.Native.Nat.{ℕ, ◌<◌}
use mathlib.Core.Path.{◌≡◌, sym, ap, ◌∙◌}
use mathlib.Core.Bool.{Bool, true, cond}
use Rattle.model.specs.Numbers.{is_permutation}
use Rattle.model.specs.Map.{Plan, darts, opposite, next, dart_count_fits}
use Rattle.model.specs.Traversal.{onward}
use Rattle.model.proofs.Fitness.{count_even}
use Rattle.orbits.specs.Chord as chord
use Rattle.orbits.specs.Tour.{Tour}
use Rattle.orbits.proofs.Chord.{next_bound}
use Rattle.orbits.proofs.Maps.{opposite_inv, next_perm}
use Rattle.words.specs.Toured.{dart_at, letter_of, pos_of, Toured, is_tree}
use Rattle.words.proofs.Letters.{onward_is}
use Rattle.words.proofs.Positions.{dart_next, pos_mate, mate_tree}

abbrev pub tree_dart : Plan → ℕ → Bool
tree_dart p d = is_tree (letter_of p (pos_of p d))

module _ (p : Plan) (t : Toured p) (fits : dart_count_fits (darts p) ≡ true) where
  -- one position on, round the traversal
  pub step_on : (i : ℕ) → i < darts p → pos_of p (onward p.rotation (letter_of p i) (dart_at p i)) ≡ chord.next (darts p) i
  step_on i h = ap (pos_of p) (sym (dart_next p t i h)) ∙ t.pos_dart (chord.next (darts p) i) (next_bound (darts p) i h)

  tree_whole : (d : ℕ) → d < darts p → tree_dart p (opposite d) ≡ tree_dart p d
  tree_whole d h = ap (λ (i : ℕ). is_tree (letter_of p i)) (pos_mate p t d h) ∙ mate_tree p t (pos_of p d) (t.pos_bound d h)

  tour_step : (d : ℕ) → d < darts p
      → pos_of p (cond (tree_dart p d) (next p.rotation (opposite d)) (next p.rotation d)) ≡ chord.next (darts p) (pos_of p d)
  tour_step d h =
      let l = letter_of p (pos_of p d) in
      ap (pos_of p) (sym (onward_is p.rotation l d) ∙ ap (onward p.rotation l) (sym (t.dart_pos d h))) ∙ step_on (pos_of p d) (t.pos_bound d h)

  pub tour : is_permutation p.rotation ≡ true → Tour (darts p) (next p.rotation) opposite (tree_dart p) (pos_of p) (dart_at p)
  tour perm = record {
    turn = next_perm p.rotation perm;
    cross = opposite_inv (darts p) (count_even (darts p) fits);
    whole = tree_whole;
    pos_bound = t.pos_bound;
    dart_bound = t.dart_bound;
    dart_pos = t.dart_pos;
    pos_dart = t.pos_dart;
    step = tour_step;
  }
