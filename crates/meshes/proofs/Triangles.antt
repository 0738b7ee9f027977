-- What it is to be a mesh, seen from the dual.
--
--   Triangle rot d, triangle_parts, parts_triangle   the parts of `is_triangle`
--   triangle_apart    the opposite of a triangle's dart lies on another face
--   mesh_fit, mesh_triangle, parts_mesh   the parts of fitness for kind 3
--   Cubic q           fit for kind 2, vertices of three darts, edges of two faces
--   mesh_dual         the dual of a mesh is so
--   dual_mesh         the dual of such a plan is a mesh
use Prim.Native.Nat.{ℕ, zero, suc, ◌/◌, ◌%◌, ◌<◌}
use mathlib.Core.Path.{◌≡◌, refl, sym, ap, subst, ◌∙◌}
use mathlib.Core.Logic.{◌⊎◌, inl, inr, ⊎_elim, ◌≢◌}
use mathlib.Core.Bool.{true, not, ◌&&◌}
use mathlib.Core.List.{List}
use lib.Dec.{eqb}
use lib.ListN.{length}
use borrow.Author.Tests.{eqb-true, eqb-false, eq-eqb, ne_eqb, not-true, not-false}
use Rattle.model.specs.Numbers.{iter}
use Rattle.model.specs.Map.{Plan, darts, opposite, next, vertex_of, face_next, face_of, dart_count_fits, is_triangle, has_other_face, fit}
use Rattle.model.specs.Mesh.{dual_of, dual_plan}
use Rattle.model.proofs.Booleans.{and_left, and_right, some_no, no_some}
use Rattle.model.proofs.Opposite.{opposite_ne, opposite_edge, same_edge, opposite_bound}
use Rattle.model.proofs.Fitness.{fit_parts, count_even, loopless_at}
use Rattle.orbits.specs.Permutation.{Perm}
use Rattle.orbits.proofs.Cycle.{same_reach}
use Rattle.orbits.proofs.Maps.{next_perm, face_perm, vertex_turn}
use Rattle.duals.proofs.Duals.{length_dual, dual_next, dual_face, dual_perm, dual_planar, dual_connected, loopless_dual, dual_loopless}
use Rattle.meshes.proofs.Fits.{no_loop, two_parts, mesh_parts, mesh_of_parts}

-- ---- triangles

module _ (rot : List ℕ) where
  abbrev φ : ℕ → ℕ
  φ = face_next rot

  pub record Triangle (d : ℕ) : Type 0 where
    pub round : face_next rot (face_next rot (face_next rot d)) ≡ d
    pub one_two : d / 2 ≢ face_next rot d / 2
    pub two_three : face_next rot d / 2 ≢ face_next rot (face_next rot d) / 2
    pub three_one : face_next rot (face_next rot d) / 2 ≢ d / 2

  pub triangle_parts : (d : ℕ) → is_triangle rot d ≡ true → Triangle d
  unfolding is_triangle
  triangle_parts d e =
      let a = eqb (φ (φ (φ d))) d in
      let b = not (eqb (d / 2) (φ d / 2)) in
      let c = not (eqb (φ d / 2) (φ (φ d) / 2)) in
      let f = not (eqb (φ (φ d) / 2) (d / 2)) in
      let r = and_right a (b && (c && f)) e in
      let s = and_right b (c && f) r in
      record {
        round = eqb-true (φ (φ (φ d))) d (and_left a (b && (c && f)) e);
        one_two = eqb-false (d / 2) (φ d / 2) (not-true _ (and_left b (c && f) r));
        two_three = eqb-false (φ d / 2) (φ (φ d) / 2) (not-true _ (and_left c f s));
        three_one = eqb-false (φ (φ d) / 2) (d / 2) (not-true _ (and_right c f s));
      }

  pub parts_triangle : (d : ℕ) → Triangle d → is_triangle rot d ≡ true
  unfolding is_triangle
  parts_triangle d t = rw (
    eq-eqb (φ (φ (φ d))) d t.round,
    ne_eqb (d / 2) (φ d / 2) t.one_two,
    ne_eqb (φ d / 2) (φ (φ d) / 2) t.two_three,
    ne_eqb (φ (φ d) / 2) (d / 2) t.three_one,
  )

  -- the face of a triangle has no other dart
  module _ (perm : Perm (length rot) (face_next rot)) (two : length rot % 2 ≡ 0) where
    pub triangle_apart : (d : ℕ) → d < length rot → Triangle d → face_of rot d ≢ face_of rot (opposite d)
    unfolding face_of iter
    triangle_apart d h t same =
        let (k, r) = same_reach (length rot) φ perm d (opposite d) (opposite_bound (length rot) d two h) same in
        let s = opposite_edge d in
        ⊎_elim
        (λ e. opposite_ne d (sym r ∙ e))
        (λ f. ⊎_elim
        (λ e. t.one_two (sym s ∙ ap (λ (x : ℕ). x / 2) (sym r ∙ e)))
        (λ e. t.three_one (ap (λ (x : ℕ). x / 2) (sym e ∙ r) ∙ s)) f)
        (go k d (inl refl))
      where
        On : ℕ → Type 0
        On x = (x ≡ d) ⊎ ((x ≡ φ d) ⊎ (x ≡ φ (φ d)))

        step : (x : ℕ) → On x → On (φ x)
        step x (inl e) = inr (inl (ap φ e))
        step x (inr (inl e)) = inr (inr (ap φ e))
        step x (inr (inr e)) = inl (ap φ e ∙ t.round)

        go : (k x : ℕ) → On x → On (iter φ k x)
        go zero x o = o
        go (suc k) x o = go k (φ x) (step x o)

-- ---- meshes

pub mesh_fit : (p : Plan) → fit 3 p ≡ true → fit 2 p ≡ true
mesh_fit p e = let m = mesh_parts p e in two_parts p m.count m.root m.entries m.joined m.flat m.loops

pub mesh_triangle : (p : Plan) → fit 3 p ≡ true → (d : ℕ) → d < darts p → Triangle p.rotation d
unfolding has_other_face
mesh_triangle p e d h =
    triangle_parts p.rotation d (not-false (is_triangle p.rotation d)
    (some_no (λ d. not (is_triangle p.rotation d)) (darts p) (mesh_parts p e).triangles d h))

pub parts_mesh : (p : Plan) → fit 2 p ≡ true → ((d : ℕ) → d < darts p → Triangle p.rotation d) → fit 3 p ≡ true
unfolding has_other_face
parts_mesh p f t =
    let a = fit_parts 2 p f in
    mesh_of_parts p (record {
      count = a.count;
      root = a.root;
      entries = a.entries;
      joined = a.joined;
      flat = a.flat;
      loops = no_loop p f;
      triangles = no_some (λ d. not (is_triangle p.rotation d)) (darts p) (λ d h. ap not (parts_triangle p.rotation d (t d h)));
    })

pub record Cubic (q : Plan) : Type 0 where
  pub fits : fit 2 q ≡ true
  pub three : (d : ℕ) → d < darts q → next q.rotation (next q.rotation (next q.rotation d)) ≡ d
  pub alone : (d : ℕ) → d < darts q → next q.rotation d ≢ d
  pub two_faced : (d : ℕ) → d < darts q → face_of q.rotation d ≢ face_of q.rotation (opposite d)

-- the dual of a plan that is fit for kind 2 and whose edges have two faces is fit for kind 2
fit_dual : (p : Plan) → fit 2 p ≡ true → ((d : ℕ) → d < darts p → face_of p.rotation d ≢ face_of p.rotation (opposite d)) → fit 2 (dual_plan p) ≡ true
unfolding dual_plan
fit_dual p e apart =
    let f = fit_parts 2 p e in
    let two = count_even (darts p) f.count in
    two_parts (dual_plan p)
    (ap dart_count_fits (length_dual p.rotation) ∙ f.count)
    (subst (λ (n : ℕ). p.root < n) (sym (length_dual p.rotation)) f.root)
    (dual_perm p.rotation two f.entries)
    (dual_connected p.rotation two f.entries ∙ f.joined)
    (dual_planar p.rotation two f.entries ∙ f.flat)
    (dual_loopless p.rotation two f.entries apart)

pub mesh_dual : (p : Plan) → fit 3 p ≡ true → Cubic (dual_plan p)
unfolding dual_plan
mesh_dual p e =
    let g = mesh_fit p e in
    let f = fit_parts 2 p g in
    let two = count_even (darts p) f.count in
    let perm = face_perm p.rotation f.entries two in
    let inside : (d : ℕ) → d < length (dual_of p.rotation) → d < darts p = λ d h. subst (λ (n : ℕ). d < n) (length_dual p.rotation) h in
    record {
      fits = fit_dual p g (λ d h. triangle_apart p.rotation perm two d h (mesh_triangle p e d h));
      three = λ d h.
          let k = inside d h in
          let k₁ = perm.bound d k in
          let k₂ = perm.bound (face_next p.rotation d) k₁ in
          ap (λ (x : ℕ). next (dual_of p.rotation) (next (dual_of p.rotation) x)) (dual_next p.rotation d k)
          ∙ ap (next (dual_of p.rotation)) (dual_next p.rotation (face_next p.rotation d) k₁)
          ∙ dual_next p.rotation (face_next p.rotation (face_next p.rotation d)) k₂ ∙ (mesh_triangle p e d k).round;
      alone = λ d h s.
          (mesh_triangle p e d (inside d h)).one_two (ap (λ (x : ℕ). x / 2) (sym s ∙ dual_next p.rotation d (inside d h)));
      two_faced = λ d h. loopless_dual p.rotation two f.entries (no_loop p g) d (inside d h);
    }

pub dual_mesh : (q : Plan) → Cubic q → fit 3 (dual_plan q) ≡ true
unfolding dual_plan
dual_mesh q c =
    let f = fit_parts 2 q c.fits in
    let two = count_even (darts q) f.count in
    let turn = next_perm q.rotation f.entries in
    let σ = next q.rotation in
    let rot = dual_of q.rotation in
    -- a dart and the next one about its vertex are of different edges: there is no loop
    let other : (d : ℕ) → d < darts q → d / 2 ≢ σ d / 2 = λ d h s.
    ⊎_elim
    (λ e. c.alone d h (sym e))
    (λ e. loopless_at q.rotation (no_loop q c.fits) (σ d) (turn.bound d h)
    (vertex_turn q.rotation turn d h ∙ ap (vertex_of q.rotation) e))
    (same_edge d (σ d) s) in
    parts_mesh (dual_plan q) (fit_dual q c.fits c.two_faced) (λ d h.
    let k : d < darts q = subst (λ (n : ℕ). d < n) (length_dual q.rotation) h in
    let k₁ = turn.bound d k in
    let k₂ = turn.bound (σ d) k₁ in
    let e₁ : face_next rot d ≡ σ d = dual_face q.rotation two d k in
    let e₂ : face_next rot (face_next rot d) ≡ σ (σ d) = ap (face_next rot) e₁ ∙ dual_face q.rotation two (σ d) k₁ in
    let e₃ : face_next rot (face_next rot (face_next rot d)) ≡ d =
    ap (face_next rot) e₂ ∙ dual_face q.rotation two (σ (σ d)) k₂ ∙ c.three d k in
    record {
      round = e₃;
      one_two = λ s. other d k (s ∙ ap (λ (x : ℕ). x / 2) e₁);
      two_three = λ s. other (σ d) k₁ (ap (λ (x : ℕ). x / 2) (sym e₁) ∙ s ∙ ap (λ (x : ℕ). x / 2) e₂);
      three_one = λ s. other (σ (σ d)) k₂ (ap (λ (x : ℕ). x / 2) (sym e₂) ∙ s ∙ ap (λ (x : ℕ). x / 2) (sym (c.three d k)));
    })
