-- Reading a record of kind 3 whose head passes.
--
--   MeshPlanned t r out answer out'   the standard plan of the record r stands at the front of the output out', or no fit plan has this record
--   MeshUnder inv r out answer out'   it goes so under every table with this inverse that loading gives
use Rattle.std.specs.Prelude.{ℕ, ◌≡◌, false, List, Result, Ok, Err}
use Rattle.model.specs.declared.Table.{Table}
use Rattle.model.specs.declared.Refusal.{Refusal}
use Rattle.model.specs.declared.Refusal.TheVariants.{NoFitPlan}
use Rattle.model.specs.declared.ReadBack.{ReadBack}
use Rattle.model.specs.Map.{Plan}
use Rattle.model.specs.Traversal.{standard_rotation}
use Rattle.model.specs.Shelf.{kind_of, edges_of}
use Rattle.model.specs.Calls.{front, table_refused, HasRecord, outside_read}

pub data MeshPlanned (t : Table) (r out : List ℕ) (answer : Result ReadBack Refusal) (out' : List ℕ) : Type 0 where
  mesh_planned : (p : Plan) → HasRecord t r p → answer ≡ Ok (record { edges = edges_of r; outside = outside_read (kind_of r) p })
      → out' ≡ front (standard_rotation p) out → MeshPlanned t r out answer out'
  no_mesh : ((p : Plan) → HasRecord t r p → ⊥) → answer ≡ Err NoFitPlan → out' ≡ out → MeshPlanned t r out answer out'

abbrev pub MeshUnder : List ℕ → List ℕ → List ℕ → Result ReadBack Refusal → List ℕ → Type 0
MeshUnder inv r out answer out' = (t : Table) → table_refused t ≡ false → t.inverse ≡ inv → MeshPlanned t r out answer out'
