-- The walk of a mesh's dual in the work area w, from the root's face back to it.
--
--   AtHome                   the walk is back at the root's face
--   Ended                    what a step comes to, after as many letters as lead down again, or back to the root's face
--   Meshed p w r w'          the whole walk: r says whether the plan is a mesh
use Rattle.std.specs.Prelude.{ℕ, ◌-◌, ◌*◌, ◌/◌, ◌≡◌, Bool, true, Option, None, Some, List, length}
use Rattle.model.specs.Map.{Plan, darts, fit}
use Rattle.model.specs.Mesh.{dual_of, types}
use Rattle.work.specs.Map.{TYPES}
use Rattle.work.specs.Area.{region}
use Rattle.tracing.specs.Tracing.{from}
use Rattle.mesh_trails.specs.Strolls.{Homing}
use Rattle.mesh_second_places.specs.declared.Stroll.{Stroll}
use Rattle.mesh_second_places.specs.declared.Turn.{Turn}
use Rattle.mesh_second_places.specs.declared.Turn.TheVariants.{Down, Up}
use Rattle.mesh_second_places.specs.Walks.{Good, Held, AtDown, Onward}

pub record AtHome (order w : List ℕ) (s : Stroll) : Type 0 where
  pub k : ℕ
  pub us : List ℕ
  pub b : List ℕ
  pub waits : List ℕ
  pub ts : List ℕ
  pub held : Held order w s k us b waits ts
  pub stands : Homing (Good order) (dual_of order) s.root k b waits ts

-- from the root r when e edges had begun; no mesh is declined
unfoldable pub Ended : List ℕ → ℕ → ℕ → List ℕ → Option Turn → List ℕ → Type 0
Ended order r e w (Some (Down t)) w' = AtDown order w' t × Onward r e w t w'
Ended order r e w (Some (Up t)) w' = AtHome order w' t × Onward r e w t w'
Ended order r e w None w' = (length w' ≡ length w) × (fit 3 (from order r) ≡ true → ⊥)

pub record Meshed (p : Plan) (w : List ℕ) (r : Bool) (w' : List ℕ) : Type 0 where
  pub kept : length w' ≡ length w
  pub mesh : r ≡ fit 3 p
  pub typed : r ≡ true → region (TYPES * darts p) (darts p / 3 - 1) w' ≡ types p
