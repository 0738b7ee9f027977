-- Whether a fit plan has a record, and what decoding leaves.
--
--   Inverse inv          inv is the inverse of a table that loading gives
--   Checked t h r work_length   no refusal of the record r but 8 and 13 holds under the table t, and h is its head
--   CheckedUnder inv h r work_length   it is so under some table with this inverse
--   Planned t r answer w'   the standard plan of the record r under the table t stands at the front of the work area w', or no fit plan has this record
--   Judged t r answer    the same without the plan
--   PlannedUnder inv r answer w', JudgedUnder inv r answer   it goes so under every table with this inverse that loading gives
--   Verdict t r work_length answer   the first of 19, 1, 2, 3, 5 and 7 that concerns the record, or whether a fit plan has it
use Rattle.std.specs.Prelude.{ℕ, ◌*◌, ◌≤◌, ◌≡◌, ◌≢◌, true, false, pos, List, Result, Ok, Err}
use Rattle.model.specs.declared.Table.{Table}
use Rattle.model.specs.declared.Refusal.{Refusal}
use Rattle.model.specs.declared.Refusal.TheVariants.{NoFitPlan}
use Rattle.model.specs.declared.ReadBack.{ReadBack}
use Rattle.model.specs.Refusals.{numbered}
use Rattle.model.specs.Map.{Plan}
use Rattle.model.specs.Traversal.{standard_rotation}
use Rattle.model.specs.Shelf.{kind_of, edges_of, passes}
use Rattle.model.specs.Calls.{table_refused, record_refusal, HasRecord, outside_read}
use Rattle.heads.specs.declared.Head.{Head}
use Rattle.work.specs.Area.{region}

abbrev pub Inverse : List ℕ → Type 0
Inverse inv = (t : Table) × (table_refused t ≡ false) × (t.inverse ≡ inv)

pub record Checked (t : Table) (h : Head) (r : List ℕ) (work_length : ℕ) : Type 0 where
  pub stands : table_refused t ≡ false
  pub passed : passes r ≡ true
  pub room : 32 * edges_of r ≤ work_length
  pub kind : h.kind ≡ kind_of r
  pub edges : h.edges ≡ edges_of r

abbrev pub CheckedUnder : List ℕ → Head → List ℕ → ℕ → Type 0
CheckedUnder inv h r work_length = (t : Table) × (t.inverse ≡ inv) × Checked t h r work_length

pub data Planned (t : Table) (r : List ℕ) (answer : Result ReadBack Refusal) (w' : List ℕ) : Type 0 where
  planned : (p : Plan) → HasRecord t r p → answer ≡ Ok (record { edges = edges_of r; outside = outside_read (kind_of r) p })
      → region 0 (2 * edges_of r) w' ≡ standard_rotation p → Planned t r answer w'
  no_plan : ((p : Plan) → HasRecord t r p → ⊥) → answer ≡ Err NoFitPlan → Planned t r answer w'

pub data Judged (t : Table) (r : List ℕ) (answer : Result ReadBack Refusal) : Type 0 where
  had : (p : Plan) → HasRecord t r p → answer ≡ Ok (record { edges = edges_of r; outside = outside_read (kind_of r) p }) → Judged t r answer
  not_had : ((p : Plan) → HasRecord t r p → ⊥) → answer ≡ Err NoFitPlan → Judged t r answer

abbrev pub PlannedUnder : List ℕ → List ℕ → Result ReadBack Refusal → List ℕ → Type 0
PlannedUnder inv r answer w' = (t : Table) → table_refused t ≡ false → t.inverse ≡ inv → Planned t r answer w'

abbrev pub JudgedUnder : List ℕ → List ℕ → Result ReadBack Refusal → Type 0
JudgedUnder inv r answer = (t : Table) → table_refused t ≡ false → t.inverse ≡ inv → Judged t r answer

pub data Verdict (t : Table) (r : List ℕ) (work_length : ℕ) (answer : Result ReadBack Refusal) : Type 0 where
  early : (record_refusal t r work_length ≢ 0) → answer ≡ Err (numbered (record_refusal t r work_length) (pos 0)) → Verdict t r work_length answer
  decided : (record_refusal t r work_length ≡ 0) → Judged t r answer → Verdict t r work_length answer
