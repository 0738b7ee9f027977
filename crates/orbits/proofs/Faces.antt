-- The lengths of a map's faces (document 02, (d)). Assumes nothing.
--
--   lengths_many       there are as many as faces
--   lengths_sum        "The numbers add up to 2m."
--   lengths_euler      a planar map has m + 2 of vertices and faces
--   lengths_few        so at most m + 1 faces
--   Walk               from dart x a walk along its face is back after l steps, and not before
--   lengths_walk       a face's length is that of its walk
use Prim.Native.Nat.{ℕ, zero, ◌+◌, ◌*◌, ◌≤◌, ◌<◌}
use native.Mathlib.Omega.{arith}
use mathlib.Core.Path.{◌≡◌, sym, ap, subst, ◌∙◌}
use mathlib.Core.Logic.{◌≢◌}
use mathlib.Core.Bool.{true}
use mathlib.Core.List.{List}
use lib.ListN.{length, get_or}
use borrow.Author.Tests.{eq-eqb}
use Rattle.model.specs.Numbers.{count, iter, least, is_least, cycles, cycle_sizes, sum, is_permutation}
use Rattle.model.specs.Map.{next, face_next, edges, vertices, faces, face_lengths, planar, dart_count_fits}
use Rattle.model.proofs.Characteristic.{planar_two}
use Rattle.model.proofs.Fitness.{count_parts}
use Rattle.orbits.specs.Permutation.{Perm}
use Rattle.orbits.proofs.Tally.{count_below}
use Rattle.orbits.proofs.Cycle.{least_le}
use Rattle.orbits.proofs.Sizes.{length_sizes, size_at, sizes_sum, size_some, size_back, size_first}
use Rattle.orbits.proofs.Maps.{face_perm}

pub record Walk (rot : List ℕ) (x l : ℕ) : Type 0 where
  pub some : zero < l
  pub back : iter (face_next rot) l x ≡ x
  pub first : (j : ℕ) → zero < j → j < l → iter (face_next rot) j x ≢ x

pub lengths_many : (rot : List ℕ) → length (face_lengths rot) ≡ faces rot
unfolding face_lengths cycle_sizes faces cycles
lengths_many rot = length_sizes (face_next rot) (length rot) (length rot)

module _ (rot : List ℕ) (size : dart_count_fits (length rot) ≡ true) where
  -- dart 0 is the least of its vertex
  some_vertex : 0 < vertices rot
  unfolding vertices cycles
  some_vertex =
      let own : least (next rot) (length rot) 0 ≡ 0 = omega (arith, least_le (next rot) (length rot) 0) in
      let more = count_below (is_least (next rot) (length rot)) 0 (length rot) (count_parts (length rot) size).0 (eq-eqb _ 0 own) in
      omega arith

  pub lengths_euler : planar rot ≡ true → vertices rot + length (face_lengths rot) ≡ edges rot + 2
  lengths_euler flat = ap (λ (f : ℕ). vertices rot + f) (lengths_many rot) ∙ planar_two rot flat

  pub lengths_few : planar rot ≡ true → length (face_lengths rot) ≤ edges rot + 1
  lengths_few flat = omega (arith, lengths_euler flat, some_vertex)

  module _ (entries : is_permutation rot ≡ true) where
    perm : Perm (length rot) (face_next rot)
    perm = face_perm rot entries (count_parts (length rot) size).1

    pub lengths_sum : sum (face_lengths rot) ≡ 2 * edges rot
    unfolding face_lengths edges
    lengths_sum = sizes_sum (length rot) (face_next rot) perm ∙ let two = (count_parts (length rot) size).1 in omega arith

    -- x is the least dart of its face, and so many faces have a lower one
    pub lengths_walk : (x : ℕ) → x < length rot → least (face_next rot) (length rot) x ≡ x
        → Walk rot x (get_or (face_lengths rot) (count (is_least (face_next rot) (length rot)) x) 0)
    unfolding face_lengths cycle_sizes
    lengths_walk x h own =
        subst (Walk rot x) (sym (size_at (face_next rot) (length rot) x (length rot) h own))
        (record {
          some = size_some (length rot) (face_next rot) perm x h;
          back = size_back (length rot) (face_next rot) perm x h;
          first = size_first (length rot) (face_next rot) perm x h;
        })
