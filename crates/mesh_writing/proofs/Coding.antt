-- From the types of a mesh to their codes in the work area.
--
--   types_proper         they are types
--   some_face            there is a face
--   types_asked          what the pass over the types asks
--   types_coded          what it leaves
use Prim.Native.Nat.{ℕ, ◌-◌, ◌*◌, ◌/◌, ◌≤◌}
use native.Mathlib.Omega.{arith}
use mathlib.Core.Path.{◌≡◌, ap, subst, ◌∙◌}
use mathlib.Core.Bool.{true}
use mathlib.Core.List.{List}
use lib.ListN.{length}
use Rattle.model.specs.Map.{Plan, darts, fit}
use Rattle.model.specs.Traversal.{word}
use Rattle.model.specs.Mesh.{dual_plan, types}
use Rattle.model.proofs.Fitness.{fit_parts, count_parts}
use Rattle.packing.specs.Types.{all_types}
use Rattle.meshes.proofs.Meshes.{mesh_count}
use Rattle.coding.proofs.Meshes.{mesh_proper, mesh_types, all_types_lem}
use Rattle.work.specs.Map.{TYPES}
use Rattle.work.specs.Area.{region}
use Rattle.mesh_encoder.specs.declared.Sizes.{Sizes}
use Rattle.mesh_encoder.specs.Encoded.{CodesOf}
use Rattle.mesh_writing.specs.Recorded.{Typed}

pub types_proper : (p : Plan) → fit 3 p ≡ true → all_types (types p) ≡ true
types_proper p fits = rw (mesh_types p fits) (all_types_lem (word (dual_plan p)) (mesh_proper p fits))

module _ (p : Plan) (w : List ℕ) (t : Typed p w) where
  pub some_face : 1 ≤ darts p / 3
  some_face = let c = mesh_count p t.mesh in omega arith

  pub types_asked : (darts p ≤ 8192) × (16 * darts p ≤ length w) × (2 * (darts p / 3 - 1) ≤ darts p) × (all_types (region (TYPES * darts p) (darts p / 3 - 1) w) ≡ true)
  types_asked =
      ((count_parts (darts p) (fit_parts 3 p t.mesh).count).2, t.room, omega arith, ap all_types t.node_types ∙ types_proper p t.mesh)

  pub types_coded : (s : Sizes) (w₁ : List ℕ) → CodesOf (darts p) (region (TYPES * darts p) (darts p / 3 - 1) w) w s w₁ → CodesOf (darts p) (types p) w s w₁
  types_coded s w₁ = subst (λ (ts : List ℕ). CodesOf (darts p) ts w s w₁) t.node_types
