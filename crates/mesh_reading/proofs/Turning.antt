-- From the dual of a mesh to the mesh in standard numbers.
--
--   dual_nested           the word of the dual is nested
--   mesh_size             the mesh has as many darts
--   order_long, mesh_there   how many darts it has, and what is known of it as a plan
--   copied_part, turned   its standard rotation is put to the output
use Prim.Native.Nat.{ℕ, ◌-◌, ◌*◌, ◌≤◌}
use native.Mathlib.Nat.{add-zero}
use native.Mathlib.Omega.{arith}
use mathlib.Core.Path.{◌≡◌, refl, sym, ap, subst, ◌∙◌}
use mathlib.Core.Bool.{true}
use mathlib.Core.List.{List, []}
use lib.ListN.{length, take, drop}
use lib.Seq.{length-take-le}
use Rattle.model.specs.Numbers.{elem}
use Rattle.model.specs.Map.{is_family, stores_outside, is_kind, family, dart_count_fits, fit}
use Rattle.model.specs.Traversal.{Letter, standard_rotation, standard_plan}
use Rattle.model.specs.Mesh.{dual_of, dual_plan}
use Rattle.model.specs.Calls.{front}
use Rattle.model.proofs.Fitness.{Fit, fit_parts}
use Rattle.model.proofs.Standard.{standard_darts}
use Rattle.words.specs.Word.{nested, valid, rotation_of, rooted, plan_of}
use Rattle.building.proofs.Built.{built_fit, built_word}
use Rattle.fit_plans.proofs.FitPlans.{fit_nested}
use Rattle.node_types.proofs.Nesting.{whole_valid}
use Rattle.duals.proofs.Duals.{dual_darts}
use Rattle.coding.specs.Payloads.{mesh_rotation}
use Rattle.coding.proofs.Meshes.{MeshWord, mesh_dual_built}
use Rattle.work.specs.Area.{region}
use Rattle.work.proofs.Regions.{region_region}
use Rattle.numbering.specs.Numbering.{Numbered}
use Rattle.mesh_reading.specs.Stages.{MeshThere, mesh_of}

module _ (v : List Letter) (mesh : MeshWord v) where
  proper : valid 2 v ≡ true
  proper = ap (valid 2) mesh.spells ∙ whole_valid mesh.tree mesh.well mesh.two_open (subst (λ (u : List Letter). dart_count_fits (length u) ≡ true) mesh.spells mesh.fits)

  dual_fit : fit 2 (plan_of v) ≡ true
  unfolding is_kind is_family stores_outside family elem
  dual_fit = built_fit 2 v proper (λ e. omega (arith, e)) 2 refl refl

  pub dual_nested : nested true 1 0 [] [] v ≡ true
  dual_nested = subst (λ (u : List Letter). nested true 1 0 [] [] u ≡ true) (built_word 2 v proper) (fit_nested 2 (plan_of v) dual_fit)

  mesh_fit : fit 3 (rooted (dual_of (rotation_of v))) ≡ true
  unfolding dual_plan plan_of
  mesh_fit = mesh_dual_built v mesh

-- both have as many darts
pub mesh_size : (v : List Letter) → length (mesh_rotation v) ≡ length (rotation_of v)
unfolding mesh_rotation plan_of standard_plan
mesh_size v = standard_darts (dual_plan (plan_of v)) ∙ dual_darts (plan_of v)

module _ (m : ℕ) (w out : List ℕ) (few : m ≤ 4096) (room : 32 * m ≤ length w) (space : 2 * m ≤ length out) (there : MeshThere m out) where
  abbrev order : List ℕ
  order = take (2 * m) out

  pub order_long : length (take (2 * m) out) ≡ 2 * m
  order_long = length-take-le (2 * m) out space

  pub mesh_there : Fit 3 (rooted order)
  mesh_there = fit_parts 3 (rooted order) (subst (λ (rot : List ℕ). fit 3 (rooted rot) ≡ true) (sym there.3) (mesh_fit there.0 there.1))

  module _ (w₁ : List ℕ) (numbered : Numbered (rooted order) w w₁) where
    copied_part : region 0 (2 * m) (take (length w₁ - 2 * m) (drop (2 * m) w₁)) ≡ standard_rotation (rooted order)
    unfolding region
    copied_part =
        region_region (2 * m) (length w₁ - 2 * m) 0 (2 * m) w₁ (omega (arith, numbered.kept)) ∙ ap (λ (a : ℕ). region a (2 * m) w₁) (add-zero (2 * m))
        ∙ (rw order_long at numbered.rotation)

    pub turned : (out' : List ℕ) → out' ≡ front (region 0 (2 * m) (take (length w₁ - 2 * m) (drop (2 * m) w₁))) out → out' ≡ front (mesh_of m out) out
    unfolding mesh_of
    turned out' e = e ∙ ap (λ (rot : List ℕ). front rot out) copied_part
