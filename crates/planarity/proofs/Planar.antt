-- A plan is planar exactly when the edges of its traversal nest.
--
--   planar_chords      of a planar plan the edges outside the tree match like brackets
--   chords_planar      and where they do, the plan is planar
--   planar_bracketed, bracketed_planar   the same with the tree edges, which always match
use Prim.Native.Nat.{ℕ, ◌+◌, ◌%◌}
use native.Mathlib.Omega.{arith}
use mathlib.Core.Path.{◌≡◌}
use mathlib.Core.Bool.{true}
use mathlib.Core.List.{List}
use lib.ListN.{length}
use Rattle.model.specs.Numbers.{cycles, is_permutation}
use Rattle.model.specs.Map.{Plan, darts, opposite, next, face_next, edges, vertices, faces, planar, dart_count_fits}
use Rattle.model.proofs.Fitness.{count_even, count_positive}
use Rattle.model.proofs.Characteristic.{planar_two, two_planar}
use Rattle.orbits.specs.Tour.{face}
use Rattle.orbits.proofs.Euler.{planar_nested, nested_planar}
use Rattle.orbits.proofs.Maps.{opposite_inv, opposite_free, next_perm}
use Rattle.words.specs.Toured.{dart_at, pos_of, is_chord, Toured, Brackets, Bracketed}
use Rattle.planarity.proofs.Touring.{tree_dart, tour}
use Rattle.planarity.proofs.Diagrams.{nested_chords, chords_nested}
use Rattle.planarity.proofs.Vertices.{trees_nested, tree_diagram_nested}

-- ---- planar, in plain numbers

module _ (rot : List ℕ) where
  abbrev Euler : Type 0
  Euler = cycles (next rot) (length rot) + cycles (face (next rot) opposite) (length rot) ≡ edges rot + 2

  planar_euler : planar rot ≡ true → Euler
  unfolding vertices faces face_next
  planar_euler = planar_two rot

  euler_planar : Euler → planar rot ≡ true
  unfolding vertices faces face_next
  euler_planar = two_planar rot

  edges_half : length rot % 2 ≡ 0 → edges rot + edges rot ≡ length rot
  unfolding edges
  edges_half e = omega arith

-- ---- planar exactly when nested

module _ (p : Plan) (t : Toured p) (fits : dart_count_fits (darts p) ≡ true) (perm : is_permutation p.rotation ≡ true) where
  even : darts p % 2 ≡ 0
  even = count_even (darts p) fits

  pub planar_chords : planar p.rotation ≡ true → Brackets is_chord p
  planar_chords e = nested_chords p t fits (planar_nested (darts p) (next p.rotation) opposite (next_perm p.rotation perm) (opposite_inv (darts p) even) (opposite_free (darts p))
      (tree_dart p) (pos_of p) (dart_at p) (tour p t fits perm) (edges p.rotation) (edges_half p.rotation even) (planar_euler p.rotation e)).0

  pub chords_planar : Brackets is_chord p → planar p.rotation ≡ true
  chords_planar chords = euler_planar p.rotation (
      nested_planar (darts p) (next p.rotation) opposite (next_perm p.rotation perm) (opposite_inv (darts p) even) (opposite_free (darts p))
      (tree_dart p) (pos_of p) (dart_at p) (tour p t fits perm) (edges p.rotation) (edges_half p.rotation even)
      (count_positive (darts p) fits) (chords_nested p t fits chords) (tree_diagram_nested p t fits perm))

  pub planar_bracketed : planar p.rotation ≡ true → Bracketed p
  planar_bracketed e = record { trees = trees_nested p t fits perm; chords = planar_chords e }

  pub bracketed_planar : Bracketed p → planar p.rotation ≡ true
  bracketed_planar b = chords_planar b.chords
