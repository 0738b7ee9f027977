-- The parts of fitness for kind 3, and of fitness for kind 2 as far as meshes and their duals need it.
--
--   no_loop           a plan that is fit for kind 2 has no loop
--   outside_free, mesh_outside_free   kinds 2 and 3 do not ask where the outside is
--   Mesh p            what makes p a mesh, part by part: no kind is named, and the outside is not asked for
--   two_parts         fitness for kind 2, from these parts
--   mesh_parts, mesh_of_parts   a plan is a mesh exactly when it has them
--   mesh_outside      another outside makes no difference
use Prim.Native.Nat.{ℕ, ◌<◌}
use mathlib.Core.Path.{◌≡◌, refl}
use mathlib.Core.Bool.{true, false}
use Rattle.model.specs.Numbers.{elem, is_permutation}
use Rattle.model.specs.Map.{Plan, darts, dart_count_fits, connected, planar, has_loop, has_other_face, is_kind, is_family, stores_outside, family}
use Rattle.model.specs.Map.{outside_refused, face_refused, degree_refused, fit}
use Rattle.model.proofs.Booleans.{bool_ext}
use Rattle.model.proofs.Fitness.{fit_parts, parts_fit, loopless, no_loop_refused}
use Rattle.model.proofs.Outside.{with_outside}

pub no_loop : (p : Plan) → fit 2 p ≡ true → has_loop p.rotation ≡ false
unfolding family stores_outside elem
no_loop p e = loopless (family 2) p.rotation (fit_parts 2 p e).loops refl

pub outside_free : (p : Plan) → outside_refused 2 p ≡ false
unfolding outside_refused stores_outside elem
outside_free p = refl

pub record Mesh (p : Plan) : Type 0 where
  pub count : dart_count_fits (darts p) ≡ true
  pub root : p.root < darts p
  pub entries : is_permutation p.rotation ≡ true
  pub joined : connected p.rotation ≡ true
  pub flat : planar p.rotation ≡ true
  pub loops : has_loop p.rotation ≡ false
  pub triangles : has_other_face p.rotation ≡ false

pub two_parts : (p : Plan) → dart_count_fits (darts p) ≡ true → p.root < darts p → is_permutation p.rotation ≡ true → connected p.rotation ≡ true
    → planar p.rotation ≡ true → has_loop p.rotation ≡ false → fit 2 p ≡ true
unfolding is_kind is_family stores_outside family elem face_refused degree_refused
two_parts p count root entries joined flat loops = parts_fit 2 p (record {
  kind = refl;
  count = count;
  root = root;
  outside = outside_free p;
  entries = entries;
  joined = joined;
  flat = flat;
  loops = no_loop_refused 2 p.rotation (λ e. loops);
  triangles = refl;
  degrees = refl;
})

pub mesh_parts : (p : Plan) → fit 3 p ≡ true → Mesh p
unfolding family stores_outside elem face_refused
mesh_parts p e =
    let f = fit_parts 3 p e in
    record {
      count = f.count;
      root = f.root;
      entries = f.entries;
      joined = f.joined;
      flat = f.flat;
      loops = loopless 3 p.rotation f.loops refl;
      triangles = f.triangles;
    }

pub mesh_of_parts : (p : Plan) → Mesh p → fit 3 p ≡ true
unfolding is_kind is_family stores_outside family elem outside_refused face_refused degree_refused
mesh_of_parts p m = parts_fit 3 p (record {
  kind = refl;
  count = m.count;
  root = m.root;
  outside = refl;
  entries = m.entries;
  joined = m.joined;
  flat = m.flat;
  loops = no_loop_refused 3 p.rotation (λ e. m.loops);
  triangles = m.triangles;
  degrees = refl;
})

moved : (p : Plan) (o : ℕ) → Mesh p → Mesh (with_outside p o)
moved p o m = record {
  count = m.count;
  root = m.root;
  entries = m.entries;
  joined = m.joined;
  flat = m.flat;
  loops = m.loops;
  triangles = m.triangles;
}

-- kind 3 asks nothing of the outside
pub mesh_outside_free : (p : Plan) → outside_refused 3 p ≡ false
unfolding outside_refused stores_outside elem
mesh_outside_free p = refl

pub mesh_outside : (p : Plan) (o : ℕ) → fit 3 (with_outside p o) ≡ fit 3 p
mesh_outside p o = bool_ext (fit 3 (with_outside p o)) (fit 3 p)
    (λ e. mesh_of_parts p (moved (with_outside p o) p.outside (mesh_parts (with_outside p o) e)))
    (λ e. mesh_of_parts (with_outside p o) (moved p o (mesh_parts p e)))
