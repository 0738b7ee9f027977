-- The dual of a rotation whose darts are counted and which is a permutation.
--
--   dual_count, dual_entries   so is the dual
--   turn, cross          its next darts, and the opposites
--   few                  it has not many darts
--   three                round a face that is a triangle
use Prim.Native.Nat.{ℕ, ◌%◌, ◌≤◌, ◌<◌}
use mathlib.Core.Path.{◌≡◌, ap, subst, ◌∙◌}
use mathlib.Core.Bool.{true}
use mathlib.Core.List.{List}
use lib.ListN.{length}
use Rattle.model.specs.Numbers.{is_permutation}
use Rattle.model.specs.Map.{opposite, next, face_next, dart_count_fits}
use Rattle.model.specs.Mesh.{dual_of}
use Rattle.model.proofs.Fitness.{count_even, count_parts}
use Rattle.orbits.specs.Permutation.{Perm}
use Rattle.orbits.specs.Chord.{Involution}
use Rattle.orbits.proofs.Maps.{next_perm, opposite_inv}
use Rattle.duals.proofs.Duals.{length_dual, dual_next, dual_perm}
use Rattle.meshes.proofs.Triangles.{triangle_parts}
use Rattle.mesh_second_places.specs.Walks.{Good}

module _ (order : List ℕ) (count_fits : dart_count_fits (length order) ≡ true) (perm : is_permutation order ≡ true) where
  abbrev rot : List ℕ
  rot = dual_of order

  abbrev size : length (dual_of order) ≡ length order
  size = length_dual order

  even : length order % 2 ≡ 0
  even = count_even (length order) count_fits

  pub dual_count : dart_count_fits (length (dual_of order)) ≡ true
  dual_count = ap dart_count_fits size ∙ count_fits

  pub dual_entries : is_permutation (dual_of order) ≡ true
  dual_entries = dual_perm order even perm

  pub turn : Perm (length (dual_of order)) (next (dual_of order))
  turn = next_perm rot dual_entries

  pub cross : Involution (length (dual_of order)) opposite
  cross = opposite_inv (length rot) (count_even (length rot) dual_count)

  pub few : length (dual_of order) ≤ 8192
  few = (count_parts (length rot) dual_count).2

  pub three : (x : ℕ) → x < length (dual_of order) → Good order x → next (dual_of order) (next (dual_of order) (next (dual_of order) x)) ≡ x
  three x h g =
      let hx : x < length order = subst (λ (n : ℕ). x < n) size h in
      let a = dual_next order x hx in
      let i : next rot x < length order = subst (λ (n : ℕ). next rot x < n) size (turn.bound x h) in
      let b = dual_next order (next rot x) i in
      let j : next rot (next rot x) < length order = subst (λ (n : ℕ). next rot (next rot x) < n) size (turn.bound (next rot x) (turn.bound x h)) in
      let c = dual_next order (next rot (next rot x)) j in
      c ∙ ap (λ (y : ℕ). face_next order y) (b ∙ ap (face_next order) a) ∙ (triangle_parts order x g).round
