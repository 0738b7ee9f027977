-- From what tests a plan is a mesh: its dual is connected, edges outside the dual's tree nest, all faces are triangles, and where an edge ends just before an
-- up, another one leaves the subtree that this up leaves.
--
--   dual_fits         the dual is fit for kind 2
--   mesh_crossed      the plan is a mesh, where the tree edges are crossed after whose last position but one an edge ends
--   mesh_fits_top     or where the edge opened last begins after that down
use Prim.Native.Nat.{ℕ, suc, ◌/◌, ◌%◌, ◌≤◌, ◌<◌}
use native.Mathlib.Omega.{arith}
use mathlib.Core.Path.{◌≡◌, sym, ap, subst, ◌∙◌}
use mathlib.Core.Logic.{◌≢◌}
use mathlib.Core.Bool.{true, false, not}
use mathlib.Core.List.{List, ◌∷◌}
use borrow.Author.Tests.{not-false}
use Rattle.model.specs.Numbers.{is_permutation}
use Rattle.model.specs.Map.{Plan, darts, opposite, next, face_of, dart_count_fits, connected, planar, has_loop, is_triangle, has_other_face, fit}
use Rattle.model.specs.Traversal.{down, up, second}
use Rattle.model.specs.Mesh.{dual_of, dual_plan}
use Rattle.model.proofs.Booleans.{some_no}
use Rattle.model.proofs.Fitness.{count_even}
use Rattle.orbits.proofs.Maps.{face_perm}
use Rattle.words.specs.Toured.{Toured, letter_of, mate_of, is_chord, Brackets}
use Rattle.words.specs.Brackets.{chord_stack}
use Rattle.words.proofs.Positions.{mate_bound, mate_back, mate_letter}
use Rattle.traversal.proofs.Toured.{walk_toured}
use Rattle.planarity.proofs.Planar.{chords_planar}
use Rattle.fit_plans.proofs.FitPlans.{fit_toured}
use Rattle.duals.proofs.Duals.{length_dual, dual_darts, dual_next, dual_dual, dual_perm, dual_planar, dual_connected, dual_loopless}
use Rattle.meshes.proofs.Fits.{two_parts, mesh_of_parts}
use Rattle.meshes.proofs.Triangles.{Triangle, triangle_parts, triangle_apart}
use Rattle.meshes.proofs.Faces.{Crossed, edges_apart}
use Rattle.mesh_walks.proofs.Crossings.{crossed_all, crossed_top}

module _ (p : Plan) (count : dart_count_fits (darts p) ≡ true) (root : p.root < darts p) (entries : is_permutation p.rotation ≡ true)
    (joined : connected (dual_of p.rotation) ≡ true) (nested : Brackets is_chord (dual_plan p)) (triangles : has_other_face p.rotation ≡ false) where
  abbrev rot : List ℕ
  rot = p.rotation

  abbrev q : Plan
  q = dual_plan p

  two : darts p % 2 ≡ 0
  two = count_even (darts p) count

  triangle : (d : ℕ) → d < darts p → Triangle rot d
  unfolding has_other_face
  triangle d h = triangle_parts rot d (not-false (is_triangle rot d) (some_no (λ d. not (is_triangle rot d)) (darts p) triangles d h))

  -- ---- the dual

  dual_count : dart_count_fits (darts q) ≡ true
  dual_count = ap dart_count_fits (dual_darts p) ∙ count

  dual_root : q.root < darts q
  unfolding dual_plan
  dual_root = subst (λ (n : ℕ). p.root < n) (sym (length_dual rot)) root

  dual_entries : is_permutation q.rotation ≡ true
  unfolding dual_plan
  dual_entries = dual_perm rot two entries

  dual_joined : connected q.rotation ≡ true
  unfolding dual_plan
  dual_joined = joined

  dual_loops : has_loop q.rotation ≡ false
  unfolding dual_plan
  dual_loops = dual_loopless rot two entries (λ d h. triangle_apart rot (face_perm rot entries two) two d h (triangle d h))

  dual_flat : planar q.rotation ≡ true
  dual_flat = chords_planar q (walk_toured q dual_count dual_root dual_entries dual_joined) dual_count dual_entries nested

  pub dual_fits : fit 2 (dual_plan p) ≡ true
  dual_fits = two_parts q dual_count dual_root dual_entries dual_joined dual_flat dual_loops

  dual_alone : (d : ℕ) → d < darts q → next q.rotation d ≢ d
  unfolding dual_plan
  dual_alone d h s =
      let k = subst (λ (n : ℕ). d < n) (length_dual rot) h in
      (triangle d k).one_two (ap (λ (x : ℕ). x / 2) (sym s ∙ dual_next rot d k))

  -- ---- the plan

  loopless : ((d : ℕ) → d < darts q → face_of q.rotation d ≢ face_of q.rotation (opposite d)) → has_loop rot ≡ false
  unfolding dual_plan
  loopless apart =
      subst (λ (r : List ℕ). has_loop r ≡ false) (dual_dual rot two)
      (dual_loopless (dual_of rot) (ap (λ (n : ℕ). n % 2) (length_dual rot) ∙ two) (dual_perm rot two entries) apart)

  mesh_apart : ((d : ℕ) → d < darts q → face_of q.rotation d ≢ face_of q.rotation (opposite d)) → fit 3 p ≡ true
  unfolding dual_plan
  mesh_apart apart = mesh_of_parts p (record {
    count = count;
    root = root;
    entries = entries;
    joined = sym (dual_connected rot two entries) ∙ joined;
    flat = sym (dual_planar rot two entries) ∙ dual_flat;
    loops = loopless apart;
    triangles = triangles;
  })

  pub mesh_crossed : ((a k : ℕ) → a < darts (dual_plan p) → letter_of (dual_plan p) a ≡ down → suc k ≡ mate_of (dual_plan p) a → letter_of (dual_plan p) k ≡ second
      → Crossed (dual_plan p) dual_fits a) → fit 3 p ≡ true
  mesh_crossed last = mesh_apart (edges_apart q dual_fits (crossed_all q dual_fits dual_alone last))

  -- ---- by the stack of open edges

  abbrev toured : Toured q
  toured = fit_toured 2 q dual_fits

  -- the same, from the up
  mesh_from_up : ((a k : ℕ) → a < darts q → letter_of q a ≡ down → suc k ≡ mate_of q a → mate_of q (suc k) ≡ a → suc k < darts p
      → letter_of q k ≡ second → letter_of q (suc k) ≡ up → Crossed q dual_fits a) → fit 3 p ≡ true
  mesh_from_up f = mesh_crossed (λ a k h d e s. f a k h d e
      (ap (mate_of q) e ∙ mate_back q toured dual_count a h)
      (omega (arith, e, mate_bound q toured dual_count a h, dual_darts p)) s (ap (letter_of q) e ∙ mate_letter q toured a h down d))

  abbrev pub Opened : ℕ → (ℕ → Type 0) → Type 0
  Opened i P = (x : ℕ) × (s : List ℕ) × (chord_stack (letter_of (dual_plan p)) i ≡ x ∷ s) × P x

  pub mesh_fits_top : ((k : ℕ) → suc k < darts p → letter_of (dual_plan p) k ≡ second → letter_of (dual_plan p) (suc k) ≡ up
      → Opened (suc k) (λ x. mate_of (dual_plan p) (suc k) ≤ x)) → fit 3 p ≡ true
  mesh_fits_top late = mesh_from_up (λ a k h d e back b s u.
      let (x, r, c, l) = late k b s u in
      crossed_top q dual_fits a h d x r (ap (chord_stack (letter_of q)) (sym e) ∙ c) (omega arith))
