-- Laws of the dual. The dart count is even; entries are a permutation where a law says so.
--
--   length_dual, dual_darts, dual_next   the dual has as many darts; the next dart about its vertices is the next one about the map's faces
--   dual_face                 and the next one about its faces is the next one about the map's vertices
--   dual_dual, dual_twice     the dual of the dual is the map; of plans too
--   dual_perm                 its entries are a permutation
--   dual_vertex_of, dual_face_of   faces become vertices and vertices faces, dart by dart
--   dual_vertices, dual_faces, dual_edges   so they change places in number
--   dual_characteristic, dual_planar   the characteristic is the same, so the dual is planar where the map is
--   dual_connected            it is connected where the map is
--   dual_renumbering          a renumbering of plans is one of their duals
--   loopless_dual, dual_loopless   loops of the one are the edges of the other that have one face on both sides
use Prim.Native.Nat.{ℕ, ◌%◌, ◌/◌, ◌<◌}
use native.Mathlib.Nat.{zero-add}
use native.Mathlib.Omega.{arith}
use mathlib.Core.Path.{◌≡◌, sym, ap, subst, ◌∙◌}
use mathlib.Core.Logic.{◌≢◌}
use mathlib.Core.Bool.{true, false}
use mathlib.Core.List.{List}
use lib.IntN.{ℤ, pos, neg_ℤ, ◌+ℤ◌, +ℤ_comm, +ℤ_assoc}
use lib.ListN.{length, get_or}
use Rattle.model.specs.Numbers.{is_permutation, least, cycles}
use Rattle.model.specs.Map.{Plan, darts, opposite, next, vertex_of, face_next, face_of, edges, vertices, faces, connected, is, characteristic, planar, has_loop}
use Rattle.model.specs.Renumbering.{Renumbering}
use Rattle.model.specs.Mesh.{dual_of, dual_plan}
use Rattle.model.proofs.Tabulated.{length_tabulate, tabulate_at, is_tabulate}
use Rattle.model.proofs.Opposite.{opposite_opposite, opposite_bound}
use Rattle.model.proofs.Booleans.{bool_ext}
use Rattle.model.proofs.Fitness.{loopless_at, at_loopless}
use Rattle.orbits.specs.Permutation.{Perm}
use Rattle.orbits.proofs.Cycle.{least_ext}
use Rattle.orbits.proofs.Transversal.{cycles_ext}
use Rattle.orbits.proofs.Maps.{perm_list, next_perm, face_perm}
use Rattle.traversal.specs.Reach.{Reached, start, across, turn}
use Rattle.traversal.proofs.Reach.{connected_reach, reached_connected}
use Rattle.renumbering.proofs.Isomorphisms.{image_bound, iso_step}
use Rattle.renumbering.proofs.Renumberings.{iso_of, with_root}

exchange : (f e v : ℤ) → (f +ℤ e) +ℤ v ≡ (v +ℤ e) +ℤ f
exchange f e v = +ℤ_comm (f +ℤ e) v ∙ ap (λ (z : ℤ). v +ℤ z) (+ℤ_comm f e) ∙ sym (+ℤ_assoc v e f)

module _ (rot : List ℕ) where
  pub length_dual : length (dual_of rot) ≡ length rot
  unfolding dual_of
  length_dual = length_tabulate _ 0 (length rot)

  pub dual_next : (d : ℕ) → d < length rot → next (dual_of rot) d ≡ face_next rot d
  unfolding dual_of next
  dual_next d h = tabulate_at (face_next rot) (length rot) d h

  pub dual_edges : edges (dual_of rot) ≡ edges rot
  unfolding edges
  dual_edges = ap (λ (n : ℕ). n / 2) length_dual

module _ (rot : List ℕ) (two : length rot % 2 ≡ 0) where
  dual_two : length (dual_of rot) % 2 ≡ 0
  dual_two = rw length_dual two

  pub dual_face : (d : ℕ) → d < length rot → face_next (dual_of rot) d ≡ next rot d
  unfolding face_next
  dual_face d h = dual_next rot (opposite d) (opposite_bound (length rot) d two h) ∙ ap (next rot) (opposite_opposite d)

  pub dual_dual : dual_of (dual_of rot) ≡ rot
  unfolding dual_of next
  dual_dual = sym (is_tabulate (face_next (dual_of rot)) 0 (length (dual_of rot)) rot (sym (length_dual rot)) (λ d h.
      sym (dual_face d (omega (arith, length_dual rot))) ∙ ap (face_next (dual_of rot)) (sym (zero-add d))))

  module _ (perm : is_permutation rot ≡ true) where
    pub dual_perm : is_permutation (dual_of rot) ≡ true
    unfolding next
    dual_perm = perm_list (dual_of rot) (subst (λ (n : ℕ). Perm n (next (dual_of rot))) (sym (length_dual rot)) (record {
      bound = λ d h. subst (λ (x : ℕ). x < length rot) (sym (dual_next rot d h)) ((face_perm rot perm two).bound d h);
      inj = λ c d hc hd e. (face_perm rot perm two).inj c d hc hd (sym (dual_next rot c hc) ∙ e ∙ dual_next rot d hd);
    }))

    pub dual_vertex_of : (d : ℕ) → d < length rot → vertex_of (dual_of rot) d ≡ face_of rot d
    unfolding vertex_of face_of
    dual_vertex_of d h =
        ap (λ (n : ℕ). least (next (dual_of rot)) n d) (length_dual rot)
        ∙ least_ext (length rot) (face_next rot) (face_perm rot perm two) (next (dual_of rot)) (dual_next rot) (length rot) d h

    pub dual_face_of : (d : ℕ) → d < length rot → face_of (dual_of rot) d ≡ vertex_of rot d
    unfolding vertex_of face_of
    dual_face_of d h =
        ap (λ (n : ℕ). least (face_next (dual_of rot)) n d) (length_dual rot)
        ∙ least_ext (length rot) (next rot) (next_perm rot perm) (face_next (dual_of rot)) dual_face (length rot) d h

    pub dual_vertices : vertices (dual_of rot) ≡ faces rot
    unfolding vertices faces
    dual_vertices = ap (cycles (next (dual_of rot))) (length_dual rot)
        ∙ sym (cycles_ext (length rot) (face_next rot) (next (dual_of rot)) (face_perm rot perm two)
        (subst (λ (n : ℕ). Perm n (next (dual_of rot))) (length_dual rot) (next_perm (dual_of rot) dual_perm)) (dual_next rot))

    pub dual_faces : faces (dual_of rot) ≡ vertices rot
    unfolding vertices faces
    dual_faces = ap (cycles (face_next (dual_of rot))) (length_dual rot)
        ∙ sym (cycles_ext (length rot) (next rot) (face_next (dual_of rot)) (next_perm rot perm)
        (subst (λ (n : ℕ). Perm n (face_next (dual_of rot))) (length_dual rot) (face_perm (dual_of rot) dual_perm dual_two)) dual_face)

    pub dual_characteristic : characteristic (dual_of rot) ≡ characteristic rot
    unfolding characteristic
    dual_characteristic = rw (dual_vertices, dual_edges rot, dual_faces) (exchange (pos (faces rot)) (neg_ℤ (pos (edges rot))) (pos (vertices rot)))

    pub dual_planar : planar (dual_of rot) ≡ planar rot
    unfolding planar
    dual_planar = ap (λ (z : ℤ). is z 2) dual_characteristic

    dual_connects : connected rot ≡ true → connected (dual_of rot) ≡ true
    unfolding face_next
    dual_connects e = reached_connected (dual_of rot) dual_two dual_perm (λ d h.
        connected_reach rot two perm e (Reached (dual_of rot)) (record {
          across = λ c hc s. across s;
          turn = λ c hc s. subst (Reached (dual_of rot)) (dual_face c hc) (turn (across s));
        }) start d (omega (arith, length_dual rot)))

module _ (rot : List ℕ) (two : length rot % 2 ≡ 0) (perm : is_permutation rot ≡ true) where
  pub dual_connected : connected (dual_of rot) ≡ connected rot
  dual_connected = bool_ext (connected (dual_of rot)) (connected rot)
      (λ e. subst (λ (r : List ℕ). connected r ≡ true) (dual_dual rot two)
      (dual_connects (dual_of rot) (rw (length_dual rot) two) (dual_perm rot two perm) e))
      (dual_connects rot two perm)

-- ---- plans, renumberings and loops

pub dual_darts : (p : Plan) → darts (dual_plan p) ≡ darts p
unfolding dual_plan
dual_darts p = length_dual p.rotation

pub dual_twice : (p : Plan) → darts p % 2 ≡ 0 → dual_plan (dual_plan p) ≡ p
unfolding dual_plan
dual_twice p two = ap (λ (r : List ℕ). record { rotation = r; root = p.root; outside = p.outside }) (dual_dual p.rotation two)

pub dual_renumbering : (p q : Plan) (f : List ℕ) → darts p % 2 ≡ 0 → Renumbering p q f → Renumbering (dual_plan p) (dual_plan q) f
unfolding dual_plan
dual_renumbering p q f two r = with_root (record {
  size = r.size ∙ sym (length_dual p.rotation);
  same_darts = length_dual p.rotation ∙ r.same_darts ∙ sym (length_dual q.rotation);
  partners = r.partners;
  opposites = λ d h. r.opposites d (omega (arith, length_dual p.rotation));
  rotations = λ d h.
      let k : d < darts p = omega (arith, length_dual p.rotation) in
      let b = image_bound (iso_of r) d k in
      ap (λ (x : ℕ). get_or f x 0) (dual_next p.rotation d k) ∙ iso_step two (iso_of r) d k
      ∙ sym (dual_next q.rotation (get_or f d 0) (omega (arith, r.same_darts)));
}) r.root_to_root

module _ (rot : List ℕ) (two : length rot % 2 ≡ 0) (perm : is_permutation rot ≡ true) where
  -- no loop: in the dual the two darts of an edge lie on different faces
  pub loopless_dual : has_loop rot ≡ false → (d : ℕ) → d < length rot → face_of (dual_of rot) d ≢ face_of (dual_of rot) (opposite d)
  loopless_dual e d h same = loopless_at rot e d h
      (sym (dual_face_of rot two perm d h) ∙ same ∙ dual_face_of rot two perm (opposite d) (opposite_bound (length rot) d two h))

  pub dual_loopless : ((d : ℕ) → d < length rot → face_of rot d ≢ face_of rot (opposite d)) → has_loop (dual_of rot) ≡ false
  dual_loopless apart = at_loopless (dual_of rot) (λ d h same.
      let k : d < length rot = omega (arith, length_dual rot) in
      apart d k (sym (dual_vertex_of rot two perm d k) ∙ same ∙ dual_vertex_of rot two perm (opposite d) (opposite_bound (length rot) d two k)))
