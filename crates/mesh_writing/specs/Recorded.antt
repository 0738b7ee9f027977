-- What writing a mesh asks and leaves.
--
--   Typed                the plan is a mesh, and its node types are in the work area
--   MeshRecorded         the record's length and the record under every table with these bytes; 8 and no record where there is no room for it
use Rattle.std.specs.Prelude.{ℕ, ◌-◌, ◌*◌, ◌/◌, ◌≤◌, ◌≡◌, true, cond, List, ltb, length, Result, Ok, Err}
use Rattle.model.specs.declared.Table.{Table}
use Rattle.model.specs.declared.Refusal.{Refusal}
use Rattle.model.specs.declared.Refusal.TheVariants.{ShortOutput}
use Rattle.model.specs.Map.{Plan, darts, fit}
use Rattle.model.specs.Mesh.{types}
use Rattle.model.specs.Record.{record_of}
use Rattle.model.specs.Calls.{front}
use Rattle.work.specs.Map.{TYPES}
use Rattle.work.specs.Area.{region}

pub record Typed (p : Plan) (w : List ℕ) : Type 0 where
  pub mesh : fit 3 p ≡ true
  pub node_types : region (TYPES * darts p) (darts p / 3 - 1) w ≡ types p
  pub room : 16 * darts p ≤ length w

pub record MeshRecorded (bs : List ℕ) (p : Plan) (w out : List ℕ) (r : Result ℕ Refusal) (w' out' : List ℕ) : Type 0 where
  pub answered : (t : Table) → t.bytes ≡ bs → r ≡ cond (ltb (length out) (length (record_of t 3 p))) (Err ShortOutput) (Ok (length (record_of t 3 p)))
  pub filled : (t : Table) → t.bytes ≡ bs → out' ≡ cond (ltb (length out) (length (record_of t 3 p))) out (front (record_of t 3 p) out)
  pub kept : length w' ≡ length w
