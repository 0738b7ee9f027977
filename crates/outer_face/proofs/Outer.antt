-- The outer face of a plan whose darts are marked.
--
--   count_fits, few, inside   its darts are a dart count, and few; its outside is one of them
--   along_faces          the steps along faces are a permutation
--   marks_there          a dart's mark and its opposite's are in the work area
--   found                the least number by the marks along the outer face is its standard face
use Prim.Native.Nat.{ℕ, ◌≤◌, ◌<◌}
use native.Mathlib.Omega.{arith}
use mathlib.Core.Path.{◌≡◌, refl, subst, ◌∙◌}
use mathlib.Core.Bool.{true}
use mathlib.Core.List.{List}
use lib.ListN.{length, get_or}
use Rattle.model.specs.Numbers.{elem, iter}
use Rattle.model.specs.Map.{Plan, darts, opposite, face_next, dart_count_fits, stores_outside}
use Rattle.model.specs.Traversal.{standard_numbers, standard_face}
use Rattle.model.proofs.Fitness.{fit_parts, count_parts, outside_dart, opposite_bound}
use Rattle.orbits.specs.Permutation.{Perm}
use Rattle.orbits.proofs.Cycle.{iter_bound}
use Rattle.outer_face.specs.Marks.{number_by, Marked}
use Rattle.outer_face.proofs.Face.{step_perm, standard_face_is}

module _ {p : Plan} {w : List ℕ} (m : Marked p w) where
  pub count_fits : dart_count_fits (darts p) ≡ true
  count_fits = (fit_parts 0x104 p m.fits).count

  pub few : darts p ≤ 8192
  few = (count_parts (darts p) count_fits).2

  pub inside : p.outside < darts p
  unfolding stores_outside elem
  inside = outside_dart 0x104 p (fit_parts 0x104 p m.fits).outside refl

  pub along_faces : Perm (darts p) (face_next p.rotation)
  along_faces = step_perm 0x104 p m.fits

  pub marks_there : (x : ℕ) → x < darts p → (x < 65536) × (x < length w) × (opposite x < length w)
  marks_there x h =
      let o = opposite_bound (darts p) x (count_parts (darts p) count_fits).1 h in
      (omega (arith, few), omega (arith, m.room), omega (arith, m.room))

  -- the dart after j steps along the outer face
  abbrev met : ℕ → ℕ
  met j = iter (face_next p.rotation) j p.outside

  number_met : (j : ℕ) → number_by w (met j) ≡ get_or (standard_numbers p) (met j) 0
  number_met j = m.numbers (met j) (iter_bound (darts p) (face_next p.rotation) along_faces j p.outside inside)

  pub found : {l : ℕ} → ((j : ℕ) → l ≤ number_by w (met j)) → (j : ℕ) × (l ≡ number_by w (met j)) → l ≡ standard_face p p.outside
  found {l} low (j, own) =
      standard_face_is 0x104 p m.fits p.outside inside l (λ i. subst (λ (y : ℕ). l ≤ y) (number_met i) (low i)) (j, own ∙ number_met j)
