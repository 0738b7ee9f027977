-- A renumbering carries fitness. Assumes nothing.
--
--   iso_loop, iso_dead_end   an isomorphism makes no loop, and no dead end if it sends root to root
--   iso_faces             nor a face that is no triangle
--   iso_connected         a map that a connected map is carried to is connected
--   iso_characteristic, iso_planar   it has the same characteristic, so it is planar if the other is
--   carries_fit           a plan that a fit plan is renumbered to is fit, if its outside is a dart where it is stored
use Prim.Native.Nat.{ℕ, ◌/◌, ◌%◌, ◌<◌}
use native.Mathlib.Omega.{arith}
use mathlib.Core.Path.{◌≡◌, refl, sym, ap, ap₂, subst, ◌∙◌}
use mathlib.Core.Bool.{Bool, true, false, not, ◌&&◌}
use mathlib.Core.Logic.{inl, inr}
use mathlib.Core.List.{List}
use lib.Dec.{eqb}
use lib.IntN.{ℤ, pos, ◌+ℤ◌, ◌-ℤ◌}
use lib.ListN.{length, get_or}
use Rattle.model.specs.Numbers.{some, cycles, is_permutation}
use Rattle.model.specs.Map.{Plan, darts, opposite, next, vertex_of, face_next, edges, vertices, faces, degree_one}
use Rattle.model.specs.Map.{connected, characteristic, planar, has_loop, has_dead_end, is_triangle, has_other_face, family, outside_refused, face_refused, degree_refused, fit}
use Rattle.model.specs.Renumbering.{Renumbering}
use Rattle.model.proofs.Booleans.{some_no, no_some}
use Rattle.model.proofs.Fitness.{count_even, fit_parts, parts_fit, loopless, no_loop_refused}
use Rattle.model.proofs.Opposite.{opposite_bound, opposite_edge, same_edge}
use Rattle.orbits.specs.Permutation.{Perm}
use Rattle.orbits.proofs.Transversal.{cycles_conj}
use Rattle.orbits.proofs.Maps.{next_perm, face_perm}
use Rattle.traversal.specs.Reach.{Reached, start, across, turn}
use Rattle.traversal.proofs.Reach.{connected_from, reached_connected}
use Rattle.renumbering.specs.Isomorphism.{Isomorphism, inverse_of}
use Rattle.renumbering.proofs.Permutations.{of_list}
use Rattle.renumbering.proofs.Isomorphisms.{eqb_both, image_bound, image_inj, back_left, back_right, back_bound}
use Rattle.renumbering.proofs.Isomorphisms.{iso_permutation, iso_step, iso_vertex}
use Rattle.renumbering.proofs.Renumberings.{iso_of, carries_darts, carries_root, carries_permutation}

module _ {rot rot' f : List ℕ} (two : length rot % 2 ≡ 0) (perm : is_permutation rot ≡ true) (iso : Isomorphism rot rot' f) where
  -- every dart is a partner
  from_partner : (S : ℕ → Type 0) → ((d : ℕ) → d < length rot → S (get_or f d 0)) → (d : ℕ) → d < length rot' → S d
  from_partner S all d h =
      let l : d < length rot = omega (arith, iso.same_darts) in
      subst S (back_right two perm iso d l) (all (get_or (inverse_of f) d 0) (back_bound two perm iso d l))

  iso_some : (t t' : ℕ → Bool) → ((d : ℕ) → d < length rot → t' (get_or f d 0) ≡ t d) → some t (length rot) ≡ false → some t' (length rot') ≡ false
  iso_some t t' same none =
      no_some t' (length rot') (from_partner (λ d. t' d ≡ false) (λ d h. same d h ∙ some_no t (length rot) none d h))

  pub iso_loop : has_loop rot ≡ false → has_loop rot' ≡ false
  unfolding has_loop
  iso_loop = iso_some (λ d. eqb (vertex_of rot d) (vertex_of rot (opposite d))) (λ d. eqb (vertex_of rot' d) (vertex_of rot' (opposite d))) (λ d h.
      let both = iso_vertex two perm iso d (opposite d) h (opposite_bound (length rot) d two h) in
      ap (λ (x : ℕ). eqb (vertex_of rot' (get_or f d 0)) (vertex_of rot' x)) (sym (iso.opposites d h))
      ∙ eqb_both (vertex_of rot d) (vertex_of rot (opposite d)) (vertex_of rot' (get_or f d 0)) (vertex_of rot' (get_or f (opposite d) 0))
      both.0 both.1)

  -- a dart is alone at its vertex exactly when its partner is
  iso_degree : (d : ℕ) → d < length rot → degree_one rot' (get_or f d 0) ≡ degree_one rot d
  unfolding degree_one
  iso_degree d h =
      ap (λ (x : ℕ). eqb x (get_or f d 0)) (sym (iso.rotations d h))
      ∙ eqb_both (next rot d) d (get_or f (next rot d) 0) (get_or f d 0) (ap (of_list f))
      (image_inj iso (next rot d) d ((next_perm rot perm).bound d h) h)

  pub iso_dead_end : (r r' o o' : ℕ) → r < length rot → get_or f r 0 ≡ r'
      → has_dead_end (record { rotation = rot; root = r; outside = o }) ≡ false → has_dead_end (record { rotation = rot'; root = r'; outside = o' }) ≡ false
  unfolding has_dead_end
  iso_dead_end r r' o o' k e =
      iso_some
      (λ d. degree_one rot d && not (eqb (vertex_of rot d) (vertex_of rot r))) (λ d. degree_one rot' d && not (eqb (vertex_of rot' d) (vertex_of rot' r')))
      (λ d h.
      let same = iso_vertex two perm iso d r h k in
      ap₂ (λ (a b : Bool). a && not b) (iso_degree d h) (
      ap (λ (x : ℕ). eqb (vertex_of rot' (get_or f d 0)) (vertex_of rot' x)) (sym e)
      ∙ eqb_both (vertex_of rot d) (vertex_of rot r) (vertex_of rot' (get_or f d 0)) (vertex_of rot' (get_or f r 0)) same.0 same.1))

  -- darts have one edge exactly when their partners have
  iso_edge : (d e : ℕ) → d < length rot → e < length rot → eqb (get_or f d 0 / 2) (get_or f e 0 / 2) ≡ eqb (d / 2) (e / 2)
  iso_edge d e h k = eqb_both (d / 2) (e / 2) (get_or f d 0 / 2) (get_or f e 0 / 2) on back
    where
      on : d / 2 ≡ e / 2 → get_or f d 0 / 2 ≡ get_or f e 0 / 2
      on q = elim (same_edge d e q) [
        | inl z ↦ ap (λ (x : ℕ). get_or f x 0 / 2) z
        | inr z ↦ ap (λ (x : ℕ). get_or f x 0 / 2) z ∙ ap (λ (x : ℕ). x / 2) (iso.opposites e k) ∙ opposite_edge (get_or f e 0)
      ]

      back : get_or f d 0 / 2 ≡ get_or f e 0 / 2 → d / 2 ≡ e / 2
      back q = elim (same_edge (get_or f d 0) (get_or f e 0) q) [
        | inl z ↦ ap (λ (x : ℕ). x / 2) (image_inj iso d e h k z)
        | inr z ↦ ap (λ (x : ℕ). x / 2) (image_inj iso d (opposite e) h (opposite_bound (length rot) e two k) (z ∙ sym (iso.opposites e k))) ∙ opposite_edge e
      ]

  iso_triangle : (d : ℕ) → d < length rot → is_triangle rot' (get_or f d 0) ≡ is_triangle rot d
  unfolding is_triangle
  iso_triangle d h =
      let e = face_next rot d in
      let g = face_next rot e in
      let bound = (face_perm rot perm two).bound in
      let k = bound d h in
      let l = bound e k in
      rw (
        ← iso_step two iso d h,
        ← iso_step two iso e k,
        ← iso_step two iso g l,
        iso_edge d e h k,
        iso_edge e g k l,
        iso_edge g d l h,
        eqb_both (face_next rot g) d (get_or f (face_next rot g) 0) (get_or f d 0) (ap (of_list f)) (image_inj iso (face_next rot g) d (bound g l) h),
      )

  pub iso_faces : has_other_face rot ≡ false → has_other_face rot' ≡ false
  unfolding has_other_face
  iso_faces = iso_some (λ d. not (is_triangle rot d)) (λ d. not (is_triangle rot' d)) (λ d h. ap not (iso_triangle d h))

  pub iso_connected : 0 < length rot → connected rot ≡ true → connected rot' ≡ true
  iso_connected some-dart e =
      reached_connected rot' (subst (λ (n : ℕ). n % 2 ≡ 0) iso.same_darts two) (iso_permutation two perm iso) (from_partner (Reached rot') (
      connected_from rot two perm e (λ d. Reached rot' (get_or f d 0)) (record {
        across = λ d h s. subst (Reached rot') (sym (iso.opposites d h)) (across s);
        turn = λ d h s. subst (Reached rot') (sym (iso.rotations d h)) (turn s);
      }) (get_or (inverse_of f) 0 0) (back_bound two perm iso 0 some-dart) (subst (Reached rot') (sym (back_right two perm iso 0 some-dart)) start)))

  -- a permutation that is carried keeps its number of cycles
  cycles_carried : (s s' : ℕ → ℕ) → Perm (length rot) s → Perm (length rot') s' → ((d : ℕ) → d < length rot → get_or f (s d) 0 ≡ s' (get_or f d 0))
      → cycles s' (length rot') ≡ cycles s (length rot)
  cycles_carried s s' perm-s perm-s' step =
      cycles_conj (length rot') s' perm-s' (length rot) s perm-s (of_list f) (of_list (inverse_of f)) (record {
        t_bound = λ d h. let b = image_bound iso d h in omega (arith, iso.same_darts);
        t_step = step;
        s_bound = λ d h. back_bound two perm iso d (omega (arith, iso.same_darts));
        t_s = λ d h. back_right two perm iso d (omega (arith, iso.same_darts));
      }) (back_left two perm iso)

  pub iso_characteristic : characteristic rot' ≡ characteristic rot
  unfolding characteristic vertices edges faces
  iso_characteristic =
      let perm' = iso_permutation two perm iso in
      let two' : length rot' % 2 ≡ 0 = subst (λ (n : ℕ). n % 2 ≡ 0) iso.same_darts two in
      let v = cycles_carried (next rot) (next rot') (next_perm rot perm) (next_perm rot' perm') iso.rotations in
      let g = cycles_carried (face_next rot) (face_next rot') (face_perm rot perm two) (face_perm rot' perm' two') (iso_step two iso) in
      ap₂ (λ (x y : ℤ). x +ℤ y) (ap₂ (λ (x y : ℕ). pos x -ℤ pos y) v (ap (λ (n : ℕ). n / 2) (sym iso.same_darts))) (ap pos g)

  pub iso_planar : planar rot ≡ true → planar rot' ≡ true
  unfolding planar
  iso_planar e = rw iso_characteristic e

degree_carried : (f : ℕ) (p q : Plan) → (has_dead_end p ≡ false → has_dead_end q ≡ false) → degree_refused f p ≡ false → degree_refused f q ≡ false
unfolding degree_refused
degree_carried f p q on = go (eqb f 1)
  where
    go : (b : Bool) → (b && has_dead_end p) ≡ false → (b && has_dead_end q) ≡ false
    go true e = on e
    go false e = refl

faces_carried : (f : ℕ) (rot rot' : List ℕ) → (has_other_face rot ≡ false → has_other_face rot' ≡ false) → face_refused f rot ≡ false → face_refused f rot' ≡ false
unfolding face_refused
faces_carried f rot rot' on = go (eqb f 3)
  where
    go : (b : Bool) → (b && has_other_face rot) ≡ false → (b && has_other_face rot') ≡ false
    go true e = on e
    go false e = refl

pub carries_fit : (k : ℕ) (p q : Plan) (f : List ℕ) → Renumbering p q f → fit k p ≡ true → outside_refused k q ≡ false → fit k q ≡ true
carries_fit k p q f r e out =
    let a = fit_parts k p e in
    let two = count_even (darts p) a.count in
    parts_fit k q (record {
      kind = a.kind;
      count = carries_darts p a.count a.root a.entries q f r;
      root = carries_root p a.count a.root a.entries q f r;
      outside = out;
      entries = carries_permutation p a.count a.root a.entries q f r;
      joined = iso_connected two a.entries (iso_of r) (omega (arith, a.root)) a.joined;
      flat = iso_planar two a.entries (iso_of r) a.flat;
      loops = no_loop_refused (family k) q.rotation (λ e. iso_loop two a.entries (iso_of r) (loopless (family k) p.rotation a.loops e));
      triangles = faces_carried (family k) p.rotation q.rotation (iso_faces two a.entries (iso_of r)) a.triangles;
      degrees = degree_carried (family k) p q (iso_dead_end two a.entries (iso_of r) p.root q.root p.outside q.outside a.root r.root_to_root) a.degrees;
    })
