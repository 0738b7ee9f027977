-- Isomorphisms of maps have inverses and compositions, and carry faces and vertices. Assumes nothing.
--
--   eqb_both              tests of equality that agree
--   image_perm, image_bound, image_inj   partners are darts, and different darts have different partners
--   back_left, back_right, back_bound   the inverse leads back, both ways
--   iso_inverse           the inverse of an isomorphism is one
--   then, iso_composed    two isomorphisms one after the other are one
--   iso_permutation       the other rotation is a permutation too
--   iso_step              the partner of a face's next dart is the next dart of the partner's face
--   iso_vertex, iso_face  two darts are of one vertex exactly when their partners are; and of one face
use Prim.Native.Nat.{ℕ, ◌%◌, ◌<◌}
use native.Mathlib.Omega.{arith}
use mathlib.Core.Path.{◌≡◌, sym, ap, subst, ◌∙◌}
use mathlib.Core.Logic.{◌↔◌}
use mathlib.Core.Bool.{true}
use mathlib.Core.List.{List}
use lib.Dec.{eqb}
use lib.ListN.{length, get_or}
use borrow.Author.Tests.{eq-eqb, ne_eqb}
use Rattle.model.specs.Numbers.{is_permutation, least}
use Rattle.model.specs.Map.{opposite, next, vertex_of, face_next, face_of}
use Rattle.model.proofs.Opposite.{opposite_bound}
use Rattle.orbits.specs.Permutation.{Perm}
use Rattle.orbits.proofs.Order.{eq_split}
use Rattle.orbits.proofs.Cycle.{least_step, least_keeps}
use Rattle.model.proofs.Tabulated.{length_tabulate}
use Rattle.orbits.proofs.Maps.{list_perm, perm_list, next_perm, face_perm}
use Rattle.renumbering.specs.Isomorphism.{Isomorphism, inverse_of, composed}
use Rattle.renumbering.proofs.Permutations.{of_list}
use Rattle.renumbering.proofs.Permutations.{length_inverse, inverse_bound, inverse_left, inverse_right, inverse_perm, composed_at, composed_perm}

-- two tests of equality that agree
pub eqb_both : (a b a' b' : ℕ) → (a ≡ b → a' ≡ b') → (a' ≡ b' → a ≡ b) → eqb a' b' ≡ eqb a b
eqb_both a b a' b' on back = eq_split a b
    (λ e. eq-eqb a' b' (on e) ∙ sym (eq-eqb a b e))
    (λ n. ne_eqb a' b' (λ e. n (back e)) ∙ sym (ne_eqb a b n))

module _ {rot rot' f : List ℕ} (iso : Isomorphism rot rot' f) where
  pub image_perm : Perm (length rot) (of_list f)
  image_perm = subst (λ (n : ℕ). Perm n (of_list f)) iso.size (list_perm f iso.partners)

  pub image_bound : (d : ℕ) → d < length rot → get_or f d 0 < length rot
  image_bound = image_perm.bound

  pub image_inj : (d e : ℕ) → d < length rot → e < length rot → get_or f d 0 ≡ get_or f e 0 → d ≡ e
  image_inj = image_perm.inj

-- ---- inverse, composition

module _ {rot rot' f : List ℕ} (two : length rot % 2 ≡ 0) (perm : is_permutation rot ≡ true) (iso : Isomorphism rot rot' f) where
  -- the partner's partner the other way round
  pub back_left : (d : ℕ) → d < length rot → get_or (inverse_of f) (get_or f d 0) 0 ≡ d
  back_left d h = inverse_left f iso.partners d (omega (arith, iso.size))

  pub back_right : (d : ℕ) → d < length rot → get_or f (get_or (inverse_of f) d 0) 0 ≡ d
  back_right d h = inverse_right f iso.partners d (omega (arith, iso.size))

  pub back_bound : (d : ℕ) → d < length rot → get_or (inverse_of f) d 0 < length rot
  back_bound d h = let b = inverse_bound f iso.partners d (omega (arith, iso.size)) in omega (arith, iso.size)

  pub iso_inverse : Isomorphism rot' rot (inverse_of f)
  iso_inverse = record {
    size = length_inverse f iso.partners ∙ iso.size ∙ iso.same_darts;
    same_darts = sym iso.same_darts;
    partners = inverse_perm f iso.partners;
    opposites = λ d h.
        let c = get_or (inverse_of f) d 0 in
        let hc = back_bound d (omega (arith, iso.same_darts)) in
        let on : get_or f (opposite c) 0 ≡ opposite d = iso.opposites c hc ∙ ap opposite (back_right d (omega (arith, iso.same_darts))) in
        ap (of_list (inverse_of f)) (sym on) ∙ back_left (opposite c) (opposite_bound (length rot) c two hc);
    rotations = λ d h.
        let c = get_or (inverse_of f) d 0 in
        let hc = back_bound d (omega (arith, iso.same_darts)) in
        let on : get_or f (next rot c) 0 ≡ next rot' d = iso.rotations c hc ∙ ap (next rot') (back_right d (omega (arith, iso.same_darts))) in
        ap (of_list (inverse_of f)) (sym on) ∙ back_left (next rot c) ((next_perm rot perm).bound c hc);
  }

  -- the rotation that is carried to is carried from, so its entries differ
  pub iso_permutation : is_permutation rot' ≡ true
  unfolding next
  iso_permutation = perm_list rot' (record {
    bound = λ d h.
        let c = get_or (inverse_of f) d 0 in
        let hc = back_bound d (omega (arith, iso.same_darts)) in
        let b = image_bound iso (next rot c) ((next_perm rot perm).bound c hc) in
        let on = iso.rotations c hc ∙ ap (next rot') (back_right d (omega (arith, iso.same_darts))) in
        omega (arith, iso.same_darts);
    inj = λ c d hc hd same.
        sym (back_right c (omega (arith, iso.same_darts))) ∙ ap (of_list f) (
        (next_perm rot perm).inj (get_or (inverse_of f) c 0) (get_or (inverse_of f) d 0) (back_bound c (omega (arith, iso.same_darts)))
        (back_bound d (omega (arith, iso.same_darts)))
        (sym (iso_inverse.rotations c hc) ∙ ap (of_list (inverse_of f)) same ∙ iso_inverse.rotations d hd))
        ∙ back_right d (omega (arith, iso.same_darts));
  })

module _ {rot rot' rot'' f g : List ℕ} (two : length rot % 2 ≡ 0) (perm : is_permutation rot ≡ true)
    (iso : Isomorphism rot rot' f) (iso' : Isomorphism rot' rot'' g) where
  same_size : length f ≡ length g
  same_size = iso.size ∙ iso.same_darts ∙ sym iso'.size

  pub then : (d : ℕ) → d < length rot → get_or (composed f g) d 0 ≡ get_or g (get_or f d 0) 0
  then d h = composed_at f g same_size iso.partners iso'.partners d (omega (arith, iso.size))

  length_composed : length (composed f g) ≡ length f
  unfolding composed
  length_composed = length_tabulate (λ d. get_or g (get_or f d 0) 0) 0 (length f)

  pub iso_composed : Isomorphism rot rot'' (composed f g)
  iso_composed = record {
    size = length_composed ∙ iso.size;
    same_darts = iso.same_darts ∙ iso'.same_darts;
    partners = composed_perm f g same_size iso.partners iso'.partners;
    opposites = λ d h.
        let b = image_bound iso d h in
        then (opposite d) (opposite_bound (length rot) d two h) ∙ ap (of_list g) (iso.opposites d h)
        ∙ iso'.opposites (get_or f d 0) (omega (arith, iso.same_darts)) ∙ ap opposite (sym (then d h));
    rotations = λ d h.
        let b = image_bound iso d h in
        then (next rot d) ((next_perm rot perm).bound d h) ∙ ap (of_list g) (iso.rotations d h)
        ∙ iso'.rotations (get_or f d 0) (omega (arith, iso.same_darts)) ∙ ap (next rot'') (sym (then d h));
  }

-- ---- faces and vertices

pub iso_step : {rot rot' f : List ℕ} → length rot % 2 ≡ 0 → Isomorphism rot rot' f
    → (d : ℕ) → d < length rot → get_or f (face_next rot d) 0 ≡ face_next rot' (get_or f d 0)
unfolding face_next
iso_step {rot} {rot'} {f} two iso d h =
    iso.rotations (opposite d) (opposite_bound (length rot) d two h) ∙ ap (next rot') (iso.opposites d h)

-- a permutation s that is carried to s': darts of one cycle have partners of one cycle
cycle_on : {rot rot' f : List ℕ} (s s' : ℕ → ℕ) → Perm (length rot) s → Perm (length rot') s' → Isomorphism rot rot' f
    → ((d : ℕ) → d < length rot → get_or f (s d) 0 ≡ s' (get_or f d 0))
    → (d e : ℕ) → d < length rot → e < length rot → least s (length rot) d ≡ least s (length rot) e
    → least s' (length rot') (get_or f d 0) ≡ least s' (length rot') (get_or f e 0)
cycle_on {rot} {rot'} {f} s s' perm perm' iso step d e hd he same = sym (label d hd) ∙ ap at same ∙ label e he
  where
    at : ℕ → ℕ
    at z = least s' (length rot') (get_or f z 0)

    label : (z : ℕ) → z < length rot → at (least s (length rot) z) ≡ at z
    label = least_keeps (length rot) s perm at (λ z h.
        let b = image_bound iso z h in
        ap (least s' (length rot')) (step z h) ∙ least_step (length rot') s' perm' (get_or f z 0) (omega (arith, iso.same_darts)))

module _ {rot rot' f : List ℕ} (two : length rot % 2 ≡ 0) (perm : is_permutation rot ≡ true) (iso : Isomorphism rot rot' f) where
  two' : length rot' % 2 ≡ 0
  two' = subst (λ (n : ℕ). n % 2 ≡ 0) iso.same_darts two

  perm' : is_permutation rot' ≡ true
  perm' = iso_permutation two perm iso

  -- both ways, where the inverse carries s' back to s
  iso_cycle : (s s' : ℕ → ℕ) → Perm (length rot) s → Perm (length rot') s'
      → ((d : ℕ) → d < length rot → get_or f (s d) 0 ≡ s' (get_or f d 0))
      → ((d : ℕ) → d < length rot' → get_or (inverse_of f) (s' d) 0 ≡ s (get_or (inverse_of f) d 0))
      → (d e : ℕ) → d < length rot → e < length rot
      → (least s (length rot) d ≡ least s (length rot) e) ↔ (least s' (length rot') (get_or f d 0) ≡ least s' (length rot') (get_or f e 0))
  iso_cycle s s' ps ps' step back d e hd he = (
    cycle_on s s' ps ps' iso step d e hd he,
    λ same.
        let bd = image_bound iso d hd in
        let be = image_bound iso e he in
        let on = cycle_on s' s ps' ps (iso_inverse two perm iso) back (get_or f d 0) (get_or f e 0)
        (omega (arith, iso.same_darts)) (omega (arith, iso.same_darts)) same in
        ap (least s (length rot)) (sym (back_left two perm iso d hd)) ∙ on ∙ ap (least s (length rot)) (back_left two perm iso e he),
  )

  pub iso_vertex : (d e : ℕ) → d < length rot → e < length rot
      → (vertex_of rot d ≡ vertex_of rot e) ↔ (vertex_of rot' (get_or f d 0) ≡ vertex_of rot' (get_or f e 0))
  unfolding vertex_of
  iso_vertex = iso_cycle (next rot) (next rot') (next_perm rot perm) (next_perm rot' perm') iso.rotations (iso_inverse two perm iso).rotations

  pub iso_face : (d e : ℕ) → d < length rot → e < length rot
      → (face_of rot d ≡ face_of rot e) ↔ (face_of rot' (get_or f d 0) ≡ face_of rot' (get_or f e 0))
  unfolding face_of
  iso_face = iso_cycle (face_next rot) (face_next rot') (face_perm rot perm two) (face_perm rot' perm' two')
      (iso_step two iso) (iso_step two' (iso_inverse two perm iso))
