-- The standard face of a dart o, by the standard numbers along its face. Assumes nothing.
--
--   step_perm            the steps along faces are a permutation
--   number_iter          the standard numbering carries them
--   face_met, face_low   the standard face is the number of a dart on the face, and none there is lower
--   standard_face_is     so the number that is both is the standard face
use Prim.Native.Nat.{ℕ, zero, suc, ◌%◌, ◌≤◌, ◌<◌}
use native.Mathlib.Omega.{arith}
use mathlib.Core.Path.{◌≡◌, refl, sym, ap, subst, ◌∙◌}
use mathlib.Core.Bool.{true}
use lib.ListN.{length, get_or}
use Rattle.model.specs.Numbers.{iter}
use Rattle.model.specs.Map.{Plan, darts, face_next, face_of, fit}
use Rattle.model.specs.Traversal.{standard_numbers, standard_rotation, standard_face, standard_plan}
use Rattle.model.proofs.Fitness.{fit_parts, count_even}
use Rattle.orbits.specs.Permutation.{Perm}
use Rattle.orbits.proofs.Cycle.{iter_out, iter_bound, least_le, least_in, least_iter}
use Rattle.orbits.proofs.Maps.{face_perm}
use Rattle.renumbering.specs.Isomorphism.{Isomorphism}
use Rattle.renumbering.proofs.Isomorphisms.{image_bound, iso_permutation, iso_step}
use Rattle.renumbering.proofs.Renumberings.{iso_of}
use Rattle.fit_plans.proofs.FitPlans.{fit_standard}

module _ (k : ℕ) (p : Plan) (e : fit k p ≡ true) where
  abbrev number_of : ℕ → ℕ
  number_of d = get_or (standard_numbers p) d 0

  -- one step along a face, in the plan's own numbers and in standard numbers
  abbrev step : ℕ → ℕ
  step = face_next p.rotation

  abbrev step' : ℕ → ℕ
  step' = face_next (standard_rotation p)

  abbrev n' : ℕ
  n' = length (standard_rotation p)

  even : darts p % 2 ≡ 0
  even = count_even (darts p) (fit_parts k p e).count

  iso : Isomorphism p.rotation (standard_rotation p) (standard_numbers p)
  unfolding standard_plan
  iso = iso_of (fit_standard k p e)

  pub step_perm : Perm (darts p) step
  step_perm = face_perm p.rotation (fit_parts k p e).entries even

  step_perm' : Perm n' step'
  step_perm' = face_perm (standard_rotation p) (iso_permutation even (fit_parts k p e).entries iso) (subst (λ (n : ℕ). n % 2 ≡ 0) iso.same_darts even)

  module _ (o : ℕ) (h : o < darts p) where
    number_iter : (j : ℕ) → number_of (iter step j o) ≡ iter step' j (number_of o)
    unfolding iter
    number_iter zero = refl
    number_iter (suc j) =
        ap number_of (iter_out step j o) ∙ iso_step even iso (iter step j o) (iter_bound (darts p) step step_perm j o h)
        ∙ ap step' (number_iter j) ∙ sym (iter_out step' j (number_of o))

    face_met : (j : ℕ) × (number_of (iter step j o) ≡ standard_face p o)
    unfolding standard_face face_of iter
    face_met =
        let (j, there) = least_in step' (λ z. (j : ℕ) × (iter step' j (number_of o) ≡ z)) (λ z s. (suc s.0, iter_out step' s.0 _ ∙ ap step' s.1))
        n' (number_of o) (zero, refl) in
        (j, number_iter j ∙ there)

    face_low : (j : ℕ) → standard_face p o ≤ number_of (iter step j o)
    unfolding standard_face face_of
    face_low j =
        let b = image_bound iso o h in
        let low = least_le step' n' (iter step' j (number_of o)) in
        let one = least_iter n' step' step_perm' j (number_of o) (omega (arith, iso.same_darts)) in
        omega (arith, number_iter j)

    pub standard_face_is : (m : ℕ) → ((j : ℕ) → m ≤ number_of (iter step j o)) → (j : ℕ) × (m ≡ number_of (iter step j o)) → m ≡ standard_face p o
    standard_face_is m low (j, own) =
        let (i, there) = face_met in
        let a = low i in
        let b = face_low j in
        omega arith
