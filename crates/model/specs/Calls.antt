-- What each call answers and leaves behind, refused or not. A work area is all zeros afterwards.
--
--   zeros w               the work area after a call
--   front new old         the first entries are new, the others as they were
--   table_refused t        loading never gives the table t
--   load_refusal, loaded_table   loading: the refusal, 0 if none, and the table that is returned
--   Loads                 all that loading promises
--   early_refusals, late_refusals, last_refusals   the refusals of writing: those that need no work area, those of the plan itself, and that of its record
--   write_refusal          the first of all, 19 before them; 0 if none
--   answer_of r t k p      the answer of writing p where r is its first refusal
--   write_answer           the answer of writing
--   written_output         the output after writing
--   Wrote                 all that writing promises
--   record_refusals        the refusals of a record that reading and shelving share, but 13; record_refusal, the first of them, 0 if none
--   read_refusal           the first of reading's refusals but 13; 0 if none
--   HasRecord t r p       p is fit for the kind that r names, and r is its record under the table t
--   outside_read k p       the dart of the outer face that reading returns
--   Reads                 what reading answers and the output after it
--   ReadCall              all that reading promises
--   measure_refusal        the first refusal of measuring the faces; 0 if none
--   measure_answer         the answer of measuring
--   measured_list          the list after measuring
--   Measures              all that measuring promises
--   shelve_refusal, shelve_answer, shelved_bytes   shelving a record that is read: first refusal, answer, the shelf afterwards
--   Shelves               what shelving answers and the shelf after it
--   Stored                all that shelving promises
--   fetch_refusal, fetched fetching: the number that is set, and the part that is returned
--   Fetched               the bytes and the number that fetching promises
--   edges_of_read, outside_of_read   the values of reading's answer
--   record_number_of_shelved, used_of_shelved   the values of shelving's answer
use Rattle.std.specs.Prelude.{ℕ, ◌+◌, ◌-◌, ◌*◌, ◌≡◌, Bool, true, not, ◌&&◌, ◌||◌, cond, List, [], ◌∷◌, ◌++◌, ◌≢◌, eqb, ltb, pos, length, get_or, take, drop, replicate, Result, Ok, Err}
use Rattle.model.specs.declared.Table.{Table}
use Rattle.model.specs.declared.Refusal.{Refusal}
use Rattle.model.specs.declared.Refusal.TheVariants.{NoFitPlan}
use Rattle.model.specs.declared.ReadBack.{ReadBack}
use Rattle.model.specs.declared.Shelved.{Shelved}
use Rattle.model.specs.Numbers.{Check, first_refusal, refuse, is_permutation}
use Rattle.model.specs.Refusals.{numbered}
use Rattle.model.specs.Map.{Plan, darts, edges, face_lengths, is_kind, stores_outside, family, dart_count_fits}
use Rattle.model.specs.Map.{connected, planar, characteristic, outside_refused, loop_refused, face_refused, degree_refused, fit}
use Rattle.model.specs.Traversal.{standard_face, standard_plan}
use Rattle.model.specs.Groups.{is_table, inverse_of, loaded, no_table}
use Rattle.model.specs.Record.{length_varies, record_length, record_of}
use Rattle.model.specs.Shelf.{kind_of, edges_of, head_refusals, records_in, same, first_equal, shelf_refused}

-- "The work area, short or not, is zeros on every return."
unfoldable pub zeros : List ℕ → List ℕ
zeros w = replicate (length w) 0

-- "Other output is untouched."
unfoldable pub front : List ℕ → List ℕ → List ℕ
front new old = new ++ drop (length new) old

-- ---- the group table: document 02 (h)

-- 19, "a call is handed a table that loading never gives"
unfoldable pub table_refused : Table → Bool
table_refused t = not (is_table t.bytes) || not (same t.inverse (inverse_of t.bytes))

-- 19, "not 243 bytes or two of them equal"
unfoldable pub load_refusal : List ℕ → ℕ
load_refusal bs = first_refusal (refuse 19 (not (is_table bs)) ∷ [])

unfoldable pub loaded_table : List ℕ → Table
loaded_table bs = cond (eqb (load_refusal bs) 0) (loaded bs) no_table

pub record Loads (bs : List ℕ) (t : Table) (number : ℕ) : Type 0 where
  pub table_is : t ≡ loaded_table bs
  pub number_is : number ≡ load_refusal bs

-- ---- writing

-- "Writing meets 2, 3, 4, 6 to 12", by document 02 (e) 17 "right after 4", by (f) 18 "right after 11" and of kind 3 "8 comes last in writing", for a work area and an
-- output of these lengths
unfoldable pub early_refusals : ℕ → Plan → ℕ → ℕ → List Check
early_refusals k p work_length out_length =
    refuse 2 (not (is_kind k))
    ∷ refuse 3 (not (dart_count_fits (darts p)))
    ∷ refuse 4 (not (ltb p.root (darts p)))
    ∷ refuse 17 (outside_refused k p)
    ∷ refuse 6 (not (is_permutation p.rotation))
    ∷ refuse 7 (ltb work_length (32 * edges p.rotation))
    ∷ refuse 8 (not (length_varies k) && ltb out_length (record_length k (edges p.rotation)))
    ∷ []

unfoldable pub late_refusals : ℕ → Plan → List Check
late_refusals f p =
    refuse 9 (not (connected p.rotation))
    ∷ refuse 10 (not (planar p.rotation))
    ∷ refuse 11 (loop_refused f p.rotation)
    ∷ refuse 18 (face_refused f p.rotation)
    ∷ refuse 12 (degree_refused f p)
    ∷ []

unfoldable pub last_refusals : Table → ℕ → Plan → ℕ → List Check
last_refusals t k p out_length = refuse 8 (length_varies k && ltb out_length (length (record_of t k p))) ∷ []

-- 19 is refused "before all others"
unfoldable pub write_refusal : Table → ℕ → Plan → ℕ → ℕ → ℕ
write_refusal t k p work_length out_length =
    first_refusal (refuse 19 (table_refused t) ∷ (early_refusals k p work_length out_length ++ (late_refusals (family k) p ++ last_refusals t k p out_length)))

-- "Writing returns the record's length"; refusal 10 "also gives the characteristic"
unfoldable pub answer_of : ℕ → Table → ℕ → Plan → Result ℕ Refusal
answer_of r t k p = cond (eqb r 0) (Ok (length (record_of t k p))) (Err (numbered r (characteristic p.rotation)))

unfoldable pub write_answer : Table → ℕ → Plan → ℕ → ℕ → Result ℕ Refusal
write_answer t k p work_length out_length = answer_of (write_refusal t k p work_length out_length) t k p

-- "and fills that many output bytes"
unfoldable pub written_output : Table → ℕ → Plan → ℕ → List ℕ → List ℕ
written_output t k p work_length out = cond (eqb (write_refusal t k p work_length (length out)) 0) (front (record_of t k p) out) out

pub record Wrote (t : Table) (k : ℕ) (p : Plan) (work out : List ℕ) (answer : Result ℕ Refusal) (work' out' : List ℕ) : Type 0 where
  pub answered : answer ≡ write_answer t k p (length work) (length out)
  pub filled : out' ≡ written_output t k p (length work) out
  pub cleared : work' ≡ zeros work

-- ---- reading

-- "reading 1, 2, 3, 5, 7, 8, 13"; 19 is refused "before all others". Shelving reads with no output, so without 8.
unfoldable pub record_refusals : Table → List ℕ → ℕ → List Check
record_refusals t r work_length = refuse 19 (table_refused t) ∷ (head_refusals r ++ (refuse 7 (ltb work_length (32 * edges_of r)) ∷ []))

unfoldable pub record_refusal : Table → List ℕ → ℕ → ℕ
record_refusal t r work_length = first_refusal (record_refusals t r work_length)

unfoldable pub read_refusal : Table → List ℕ → ℕ → ℕ → ℕ
read_refusal t r work_length out_length = first_refusal (record_refusals t r work_length ++ (refuse 8 (ltb out_length (2 * edges_of r)) ∷ []))

-- the plan p is fit for the kind that the record r names, and r is its record under the table t
abbrev pub HasRecord : Table → List ℕ → Plan → Type 0
HasRecord t r p = (fit (kind_of r) p ≡ true) × (record_of t (kind_of r) p ≡ r)

-- document 02 (e): "A kind without these bytes .., when read, has the start dart's area outside. Reading also returns the lowest dart of the outside area."
unfoldable pub outside_read : ℕ → Plan → ℕ
outside_read k p = standard_face p (cond (stores_outside k) p.outside p.root)

-- 13. "No fit plan of this kind has this record"; document 02 (h): "A byte outside it is refusal 13." "Reading returns m, with the standard plan in the first 2m entries and start 0."
pub data Reads (t : Table) (r : List ℕ) (work_length : ℕ) (out : List ℕ) (answer : Result ReadBack Refusal) (out' : List ℕ) : Type 0 where
  refused : (read_refusal t r work_length (length out) ≢ 0) → answer ≡ Err (numbered (read_refusal t r work_length (length out)) (pos 0)) → out' ≡ out
      → Reads t r work_length out answer out'
  read : (read_refusal t r work_length (length out) ≡ 0) → (p : Plan) → HasRecord t r p
      → answer ≡ Ok (record { edges = edges_of r; outside = outside_read (kind_of r) p }) → out' ≡ front (standard_plan p).rotation out → Reads t r work_length out answer out'
  unreadable : (read_refusal t r work_length (length out) ≡ 0) → ((p : Plan) → HasRecord t r p → ⊥) → answer ≡ Err NoFitPlan → out' ≡ out
      → Reads t r work_length out answer out'

pub record ReadCall (t : Table) (r work out : List ℕ) (answer : Result ReadBack Refusal) (work' out' : List ℕ) : Type 0 where
  pub outcome : Reads t r (length work) out answer out'
  pub cleared : work' ≡ zeros work

-- ---- measuring: document 02 (d)

-- "It meets refusals 3, 6, 7, 9, 10, then 8 if the list is too short", for a work area and a list of these lengths
unfoldable pub measure_refusal : List ℕ → ℕ → ℕ → ℕ
measure_refusal rot work_length list_length = first_refusal
    (refuse 3 (not (dart_count_fits (length rot)))
    ∷ refuse 6 (not (is_permutation rot))
    ∷ refuse 7 (ltb work_length (32 * edges rot))
    ∷ refuse 9 (not (connected rot))
    ∷ refuse 10 (not (planar rot))
    ∷ refuse 8 (ltb list_length (length (face_lengths rot)))
    ∷ [])

-- "it fills a lent list of 16-bit numbers and returns their count"
unfoldable pub measure_answer : List ℕ → ℕ → ℕ → Result ℕ Refusal
measure_answer rot work_length list_length =
    let r = measure_refusal rot work_length list_length in
    cond (eqb r 0) (Ok (length (face_lengths rot))) (Err (numbered r (characteristic rot)))

unfoldable pub measured_list : List ℕ → ℕ → List ℕ → List ℕ
measured_list rot work_length list = cond (eqb (measure_refusal rot work_length (length list)) 0) (front (face_lengths rot) list) list

pub record Measures (rot work list : List ℕ) (answer : Result ℕ Refusal) (work' list' : List ℕ) : Type 0 where
  pub answered : answer ≡ measure_answer rot (length work) (length list)
  pub filled : list' ≡ measured_list rot (length work) list
  pub cleared : work' ≡ zeros work

-- ---- the shelf

-- "shelving 1, 2, 3, 5, 14, 16", of which these two look at the shelf. 16. "The record isn't on the shelf and exceeds the bytes past the used length."
unfoldable pub shelve_refusal : List ℕ → List ℕ → ℕ → ℕ
shelve_refusal r shelf used =
    let rs = records_in (take used shelf) in
    first_refusal
    (refuse 14 (shelf_refused shelf used)
    ∷ refuse 16 (eqb (first_equal r rs) (length rs) && ltb (length shelf - used) (length r))
    ∷ [])

-- "Shelving returns the record's number and the new used length: if equal bytes are already there, the first such number, with nothing stored; else
-- they are put just past the used bytes."
unfoldable pub shelve_answer : List ℕ → List ℕ → ℕ → Result Shelved Refusal
shelve_answer r shelf used =
    let rs = records_in (take used shelf) in
    let n = first_equal r rs in
    cond (eqb (shelve_refusal r shelf used) 0) (Ok (record { number = n; used = cond (eqb n (length rs)) (used + length r) used }))
    (Err (numbered (shelve_refusal r shelf used) (pos 0)))

unfoldable pub shelved_bytes : List ℕ → List ℕ → ℕ → List ℕ
shelved_bytes r shelf used =
    let rs = records_in (take used shelf) in
    cond (eqb (shelve_refusal r shelf used) 0 && eqb (first_equal r rs) (length rs)) (take used shelf ++ front r (drop used shelf)) shelf

-- Document 02 (b): "It shall take a work area and read each new record first. A refusal met while reading the record is passed on: 7 and 13 may now come from
-- shelving, after 5 and before 14." Every record handed in is new, equal bytes on the shelf or not. This repeals "a payload that nobody can read is shelved like any other".
pub data Shelves (t : Table) (r : List ℕ) (work_length : ℕ) (shelf : List ℕ) (used : ℕ) (answer : Result Shelved Refusal) (shelf' : List ℕ) : Type 0 where
  unread : (record_refusal t r work_length ≢ 0) → answer ≡ Err (numbered (record_refusal t r work_length) (pos 0)) → shelf' ≡ shelf
      → Shelves t r work_length shelf used answer shelf'
  planless : (record_refusal t r work_length ≡ 0) → ((p : Plan) → HasRecord t r p → ⊥) → answer ≡ Err NoFitPlan → shelf' ≡ shelf
      → Shelves t r work_length shelf used answer shelf'
  readable : (record_refusal t r work_length ≡ 0) → (p : Plan) → HasRecord t r p → answer ≡ shelve_answer r shelf used → shelf' ≡ shelved_bytes r shelf used
      → Shelves t r work_length shelf used answer shelf'

pub record Stored (t : Table) (r work shelf : List ℕ) (used : ℕ) (answer : Result Shelved Refusal) (work' shelf' : List ℕ) : Type 0 where
  pub outcome : Shelves t r (length work) shelf used answer shelf'
  pub cleared : work' ≡ zeros work

-- "fetching 14, 15". 15. "The shelf holds no record with this number, counting from 0."
unfoldable pub fetch_refusal : List ℕ → ℕ → ℕ → ℕ
fetch_refusal shelf used n = first_refusal (refuse 14 (shelf_refused shelf used) ∷ refuse 15 (not (ltb n (length (records_in (take used shelf))))) ∷ [])

-- "Fetching returns the part of the lent shelf that is record n"; "a refused fetch returns an empty part"
unfoldable pub fetched : List ℕ → ℕ → ℕ → List ℕ
fetched shelf used n = cond (eqb (fetch_refusal shelf used n) 0) (get_or (records_in (take used shelf)) n []) []

pub record Fetched (shelf : List ℕ) (used n : ℕ) (part : List ℕ) (number : ℕ) : Type 0 where
  pub part_is : part ≡ fetched shelf used n
  pub number_is : number ≡ fetch_refusal shelf used n

-- ---- "If an answer is an enum, a definition sets out this paper's number and values for each of the enum's cases." Its number is `number_of`; what writing and
-- measuring return is 0 where they are refused, and so are these.

-- the number of edges that is returned
abbrev pub edges_of_read : Result ReadBack Refusal → ℕ
edges_of_read (Ok r) = r.edges
edges_of_read (Err e) = 0

-- the lowest dart of the outer face that is returned
abbrev pub outside_of_read : Result ReadBack Refusal → ℕ
outside_of_read (Ok r) = r.outside
outside_of_read (Err e) = 0

-- the record's number that is returned
abbrev pub record_number_of_shelved : Result Shelved Refusal → ℕ
record_number_of_shelved (Ok s) = s.number
record_number_of_shelved (Err e) = 0

-- the new used length that is returned; as before where shelving is refused
abbrev pub used_of_shelved : ℕ → Result Shelved Refusal → ℕ
used_of_shelved before (Ok s) = s.used
used_of_shelved before (Err e) = before
