-- Standard numbers and renumberings carry faces. Assumes nothing.
--
--   carries_face          two darts are of one face exactly when their partners are
--   carries_outside       where the outside is stored, a dart is of the first outer face exactly when its partner is of the second
--   standard_face_lem         two darts are of one face exactly when their standard faces are equal
--   standard_bound, standard_least   a standard face is a dart, the least of its face in the standard rotation
--   standard_root         the root's standard face is 0
--   standard_own          a plan in standard numbers has its own faces for standard ones
--   numbers_through       the standard number of a dart is that of its partner, where both plans have one standard rotation
--   face_through          and so is its standard face
--   outside_through       a renumbering carries the outer face exactly when the standard ones are equal
use Prim.Native.Nat.{ℕ, ◌%◌, ◌<◌}
use native.Mathlib.Omega.{arith}
use mathlib.Core.Path.{◌≡◌, sym, ap, ap₂, subst, ◌∙◌}
use mathlib.Core.Logic.{◌↔◌}
use mathlib.Core.Bool.{true}
use mathlib.Core.List.{List}
use lib.ListN.{length, get_or}
use Rattle.model.specs.Numbers.{is_permutation}
use Rattle.model.specs.Map.{Plan, darts, opposite, next, face_of, stores_outside, fit}
use Rattle.model.specs.Traversal.{standard_numbers, standard_rotation, standard_face, standard_plan}
use Rattle.model.specs.Renumbering.{Renumbering, Carries}
use Rattle.model.proofs.Fitness.{Fit, count_even, fit_parts, outside_dart}
use Rattle.orbits.proofs.Maps.{face_bound, face_own, face_zero}
use Rattle.traversal.proofs.Reach.{connected_from}
use Rattle.renumbering.specs.Isomorphism.{Isomorphism, composed}
use Rattle.renumbering.proofs.Isomorphisms.{image_bound, then, iso_composed, iso_permutation, iso_face}
use Rattle.renumbering.proofs.Renumberings.{iso_of}
use Rattle.renumbering.proofs.Connected.{fixed_by_one_dart}

module _ (k : ℕ) (p : Plan) (e : fit k p ≡ true) where
  abbrev parts : Fit k p
  parts = fit_parts k p e

  two : darts p % 2 ≡ 0
  two = count_even (darts p) parts.count

  pub carries_face : (q : Plan) (f : List ℕ) → Renumbering p q f → (c d : ℕ) → c < darts p → d < darts p
      → (face_of p.rotation c ≡ face_of p.rotation d) ↔ (face_of q.rotation (get_or f c 0) ≡ face_of q.rotation (get_or f d 0))
  carries_face q f r = iso_face two parts.entries (iso_of r)

  pub carries_outside : (q : Plan) (f : List ℕ) → Carries k p q f → stores_outside k ≡ true → (d : ℕ) → d < darts p
      → (face_of p.rotation d ≡ face_of p.rotation p.outside) ↔ (face_of q.rotation (get_or f d 0) ≡ face_of q.rotation q.outside)
  carries_outside q f r s d h =
      let (on, back) = carries_face q f r.renumbering d p.outside h (outside_dart k p parts.outside s) in
      (λ same. on same ∙ r.outsides s, λ same. back (same ∙ sym (r.outsides s)))

  module _ (standard : Renumbering p (standard_plan p) (standard_numbers p)) where
    pub standard_face_lem : (c d : ℕ) → c < darts p → d < darts p
        → (face_of p.rotation c ≡ face_of p.rotation d) ↔ (standard_face p c ≡ standard_face p d)
    unfolding standard_face standard_plan
    standard_face_lem = carries_face (standard_plan p) (standard_numbers p) standard

    standard_perm : is_permutation (standard_rotation p) ≡ true
    unfolding standard_plan
    standard_perm = iso_permutation two parts.entries (iso_of standard)

    many : length (standard_rotation p) ≡ darts p
    unfolding standard_plan
    many = sym standard.same_darts

    even : length (standard_rotation p) % 2 ≡ 0
    even = subst (λ (n : ℕ). n % 2 ≡ 0) (sym many) two

    number_bound : (d : ℕ) → d < darts p → get_or (standard_numbers p) d 0 < length (standard_rotation p)
    number_bound d h = let b = image_bound (iso_of standard) d h in omega (arith, many)

    pub standard_bound : (d : ℕ) → d < darts p → standard_face p d < darts p
    unfolding standard_face
    standard_bound d h = let b = face_bound (standard_rotation p) standard_perm even _ (number_bound d h) in omega (arith, many)

    pub standard_least : (d : ℕ) → d < darts p → face_of (standard_rotation p) (standard_face p d) ≡ standard_face p d
    unfolding standard_face
    standard_least d h = face_own (standard_rotation p) standard_perm even _ (number_bound d h)

    pub standard_root : standard_face p p.root ≡ 0
    unfolding standard_face standard_plan
    standard_root = ap (face_of (standard_rotation p)) standard.root_to_root ∙ face_zero (standard_rotation p)

    -- the numbering keeps every dart that is reached from the root
    pub standard_own : standard_rotation p ≡ p.rotation → p.root ≡ 0 → (d : ℕ) → d < darts p → standard_face p d ≡ face_of p.rotation d
    unfolding standard_face standard_plan
    standard_own turns root d h = ap₂ face_of turns (
        connected_from p.rotation two parts.entries parts.joined (λ d. get_or (standard_numbers p) d 0 ≡ d) (record {
          across = λ d hd s. standard.opposites d hd ∙ ap opposite s;
          turn = λ d hd s. standard.rotations d hd ∙ ap₂ next turns s;
        }) p.root parts.root (standard.root_to_root ∙ sym root) d h)

module _ (k : ℕ) (p q : Plan) (e : fit k p ≡ true) (g : fit k q ≡ true) (f : List ℕ) (r : Renumbering p q f)
    (standard : Renumbering p (standard_plan p) (standard_numbers p)) (standard' : Renumbering q (standard_plan q) (standard_numbers q))
    (one : standard_rotation p ≡ standard_rotation q) where
  -- both ways to the one rotation, of which the second leads through q
  straight : Isomorphism p.rotation (standard_rotation q) (standard_numbers p)
  unfolding standard_plan
  straight = subst (λ (rot : List ℕ). Isomorphism p.rotation rot (standard_numbers p)) one (iso_of standard)

  onward : Isomorphism q.rotation (standard_rotation q) (standard_numbers q)
  unfolding standard_plan
  onward = iso_of standard'

  through : (d : ℕ) → d < darts p → get_or (composed f (standard_numbers q)) d 0 ≡ get_or (standard_numbers q) (get_or f d 0) 0
  through = then (two k p e) (fit_parts k p e).entries (iso_of r) onward

  roots : get_or (standard_numbers p) p.root 0 ≡ get_or (composed f (standard_numbers q)) p.root 0
  unfolding standard_plan
  roots =
      standard.root_to_root ∙ sym standard'.root_to_root ∙ ap (λ (d : ℕ). get_or (standard_numbers q) d 0) (sym r.root_to_root)
      ∙ sym (through p.root (fit_parts k p e).root)

  pub numbers_through : (d : ℕ) → d < darts p → get_or (standard_numbers p) d 0 ≡ get_or (standard_numbers q) (get_or f d 0) 0
  numbers_through d h =
      let a = fit_parts k p e in
      let same = fixed_by_one_dart p.rotation (standard_rotation q) (standard_numbers p) (composed f (standard_numbers q))
      (two k p e) a.entries a.joined straight (iso_composed (two k p e) a.entries (iso_of r) onward) p.root a.root roots in
      ap (λ (ns : List ℕ). get_or ns d 0) same ∙ through d h

  pub face_through : (d : ℕ) → d < darts p → standard_face p d ≡ standard_face q (get_or f d 0)
  unfolding standard_face
  face_through d h = ap₂ face_of one (numbers_through d h)

  pub outside_through : p.outside < darts p → q.outside < darts q
      → (face_of q.rotation (get_or f p.outside 0) ≡ face_of q.rotation q.outside) ↔ (standard_face p p.outside ≡ standard_face q q.outside)
  outside_through h l =
      let b = image_bound (iso_of r) p.outside h in
      let (on, back) = standard_face_lem k q g standard' (get_or f p.outside 0) q.outside (omega (arith, r.same_darts)) l in
      let here = face_through p.outside h in
      (λ same. here ∙ on same, λ same. back (sym here ∙ same))
