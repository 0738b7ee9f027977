-- What the exported functions answer, in numbers: an enum cannot cross to C, so each of its values goes out by itself.
--
--   length_for             the length of a record; 0 if there is none of this kind and size, or they do not fix it
--   WriteExport           all that jurnadel_write promises
--   ReadExport            all that jurnadel_read promises
--   MeasureExport         all that jurnadel_area_lengths promises
--   ShelveExport          all that jurnadel_shelve promises
--   FetchExport           all that jurnadel_fetch promises
use Rattle.std.specs.Prelude.{ℕ, ◌≡◌, not, ◌&&◌, cond, List, ℤ, length, take, drop, Result}
use Rattle.std.specs.Result.{result_unwrap_or}
use Rattle.model.specs.declared.Refusal.{Refusal}
use Rattle.model.specs.declared.Table.{Table}
use Rattle.model.specs.declared.ReadBack.{ReadBack}
use Rattle.model.specs.declared.Shelved.{Shelved}
use Rattle.model.specs.Map.{Plan, is_kind, edge_count_fits}
use Rattle.model.specs.Record.{length_varies, record_length}
use Rattle.model.specs.Refusals.{number_of, characteristic_of}
use Rattle.model.specs.Calls.{zeros, write_answer, written_output}
use Rattle.model.specs.Calls.{Reads, edges_of_read, outside_of_read}
use Rattle.model.specs.Calls.{measure_answer, measured_list}
use Rattle.model.specs.Calls.{Shelves, record_number_of_shelved, used_of_shelved, fetch_refusal, fetched}
use Rattle.model.specs.Parts.{fetched_place}

-- ---- writing

pub record WriteExport (t : Table) (k : ℕ) (p : Plan) (work out : List ℕ) (r l : ℕ) (x : ℤ) (work' out' : List ℕ) : Type 0 where
  pub number_is : r ≡ number_of (write_answer t k p (length work) (length out))
  pub length_is : l ≡ result_unwrap_or (write_answer t k p (length work) (length out)) 0
  pub characteristic_is : x ≡ characteristic_of (write_answer t k p (length work) (length out))
  pub filled : out' ≡ written_output t k p (length work) out
  pub cleared : work' ≡ zeros work

-- ---- reading

-- the numbers are those of the answer that reading gives
pub record ReadExport (t : Table) (bytes work out : List ℕ) (r m outside : ℕ) (work' out' : List ℕ) : Type 0 where
  pub answer : Result ReadBack Refusal
  pub outcome : Reads t bytes (length work) out answer out'
  pub number_is : r ≡ number_of answer
  pub edges_are : m ≡ edges_of_read answer
  pub outside_is : outside ≡ outside_of_read answer
  pub cleared : work' ≡ zeros work

-- ---- measuring

pub record MeasureExport (rot work list : List ℕ) (r c : ℕ) (x : ℤ) (work' list' : List ℕ) : Type 0 where
  pub number_is : r ≡ number_of (measure_answer rot (length work) (length list))
  pub count_is : c ≡ result_unwrap_or (measure_answer rot (length work) (length list)) 0
  pub characteristic_is : x ≡ characteristic_of (measure_answer rot (length work) (length list))
  pub filled : list' ≡ measured_list rot (length work) list
  pub cleared : work' ≡ zeros work

-- ---- the shelf

-- the numbers are those of the answer that shelving gives
pub record ShelveExport (t : Table) (bytes work shelf : List ℕ) (used : ℕ) (r n used' : ℕ) (work' shelf' : List ℕ) : Type 0 where
  pub answer : Result Shelved Refusal
  pub outcome : Shelves t bytes (length work) shelf used answer shelf'
  pub refusal_is : r ≡ number_of answer
  pub number_is : n ≡ record_number_of_shelved answer
  pub used_is : used' ≡ used_of_shelved used answer
  pub cleared : work' ≡ zeros work

-- the fetched record is the part of the shelf at this place and of this length
pub record FetchExport (shelf : List ℕ) (used n : ℕ) (r at l : ℕ) : Type 0 where
  pub refusal_is : r ≡ fetch_refusal shelf used n
  pub place_is : at ≡ fetched_place shelf used n
  pub length_is : l ≡ length (fetched shelf used n)
  pub part_is : take l (drop at shelf) ≡ fetched shelf used n

-- ---- sizes

-- the 0 is left free by the papers; in kind 3 it says that m does not fix the length
unfoldable pub length_for : ℕ → ℕ → ℕ
length_for k m = cond (is_kind k && (not (length_varies k) && edge_count_fits m)) (record_length k m) 0
