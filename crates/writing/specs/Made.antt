-- What writing leaves before the work area is cleared.
--
--   Answered x           the answer and the output where x is the first refusal, and the work area's length
--   Made                 those of writing
--   last_refusal          8, known only with a mesh's record
--   Walked               whether the plan fits, and what the walk of its kind leaves then
--   Unfit, Refused       a plan that does not fit, and its refusal
--   Fits, Laid, LaidUnder   one that fits, with what its record is made of, and the answer for it; under every table with these bytes
use Rattle.std.specs.Prelude.{ℕ, ◌*◌, ◌≤◌, ◌≡◌, ◌≢◌, Bool, true, false, cond, List, eqb, length, Result}
use Rattle.model.specs.declared.Table.{Table}
use Rattle.model.specs.declared.Refusal.{Refusal}
use Rattle.model.specs.Numbers.{first_refusal}
use Rattle.model.specs.Map.{Plan, darts, family, characteristic, fit}
use Rattle.model.specs.Record.{record_of}
use Rattle.model.specs.Refusals.{numbered}
use Rattle.model.specs.Calls.{front, last_refusals, write_refusal, answer_of}
use Rattle.fitting.specs.Judged.{late_refusal}
use Rattle.tracing.specs.Tracing.{Sound, Fitting}
use Rattle.laying.specs.Laid.{ToLay}
use Rattle.mesh_writing.specs.Recorded.{Typed}

pub record Answered (x : ℕ) (t : Table) (k : ℕ) (p : Plan) (work out : List ℕ) (answer : Result ℕ Refusal) (work' out' : List ℕ) : Type 0 where
  pub answered : answer ≡ answer_of x t k p
  pub filled : out' ≡ cond (eqb x 0) (front (record_of t k p) out) out
  pub kept : length work' ≡ length work

abbrev pub Made : Table → ℕ → Plan → List ℕ → List ℕ → Result ℕ Refusal → List ℕ → List ℕ → Type 0
Made t k p work out answer work' out' = Answered (write_refusal t k p (length work) (length out)) t k p work out answer work' out'

unfoldable pub last_refusal : Table → ℕ → Plan → ℕ → ℕ
last_refusal t k p out_length = first_refusal (last_refusals t k p out_length)

-- ---- the walk

pub record Walked (k : ℕ) (p : Plan) (w : List ℕ) (r : Bool) (w' : List ℕ) : Type 0 where
  pub kept : length w' ≡ length w
  pub fits : r ≡ true → k ≢ 3 → Fitting (family k) p w'
  pub unfit : r ≡ false → k ≢ 3 → Sound (family k) p → ⊥
  pub mesh : r ≡ true → k ≡ 3 → Typed p w'
  pub no_mesh : r ≡ false → k ≡ 3 → fit 3 p ≡ true → ⊥

-- ---- a plan that does not fit

pub record Unfit (k : ℕ) (p : Plan) (w : List ℕ) : Type 0 where
  pub room : 16 * darts p ≤ length w
  pub late : late_refusal (family k) p ≢ 0

pub record Refused (k : ℕ) (p : Plan) (w : List ℕ) (refusal : Refusal) (w' : List ℕ) : Type 0 where
  pub answered : refusal ≡ numbered (late_refusal (family k) p) (characteristic p.rotation)
  pub kept : length w' ≡ length w

-- ---- one that fits

pub record Fits (k : ℕ) (p : Plan) (w out : List ℕ) : Type 0 where
  pub other : k ≢ 3 → ToLay k p w out
  pub mesh : k ≡ 3 → Typed (record { rotation = p.rotation; root = p.root; outside = 0 }) w

abbrev pub Laid : Table → ℕ → Plan → List ℕ → List ℕ → Result ℕ Refusal → List ℕ → List ℕ → Type 0
Laid t k p work out answer work' out' = Answered (last_refusal t k p (length out)) t k p work out answer work' out'

abbrev pub LaidUnder : List ℕ → ℕ → Plan → List ℕ → List ℕ → Result ℕ Refusal → List ℕ → List ℕ → Type 0
LaidUnder bs k p work out answer work' out' = (t : Table) → t.bytes ≡ bs → Laid t k p work out answer work' out'
