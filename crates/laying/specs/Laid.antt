-- The record of a plan that fits, from what the walk has put in the work area.
--
--   Spelt n f v w        the word v is put in the work area as family f wants it: its letters, or its tree bits and labels
--   area_payload f n w    the payload that is put there, with group values for their bytes
--   Ready                a valid word is put in the work area, and the output has room for its payload
--   Tabled               that payload in the output, under the bytes of a table
--   ToLay                a plan that fits a kind other than 3, its marks and its word in the work area, and room for its record
--   Recorded             that record in the output
--   RecordedUnder        it is there under every table with these bytes
use Rattle.std.specs.Prelude.{ℕ, ◌+◌, ◌*◌, ◌/◌, ◌≤◌, ◌≡◌, ◌≢◌, true, false, cond, List, map, eqb, length}
use Rattle.model.specs.declared.Table.{Table}
use Rattle.model.specs.Map.{Plan, darts, edges, is_family, stores_outside, family, fit}
use Rattle.model.specs.Traversal.{Letter, code, word}
use Rattle.model.specs.Record.{payload_length, record_length, record_of}
use Rattle.model.specs.Calls.{front}
use Rattle.words.specs.Word.{valid, word_bits, word_labels}
use Rattle.packing.specs.Payload.{value_payload}
use Rattle.packing.specs.Letters.{letters_payload}
use Rattle.packing.specs.Groups.{relabelled}
use Rattle.work.specs.Map.{LETTERS}
use Rattle.work.specs.Area.{region, placed}
use Rattle.work.specs.Letters.{letters_in, work_bits, work_labels}
use Rattle.outer_face.specs.Marks.{Marked}

pub record Spelt (n f : ℕ) (v : List Letter) (w : List ℕ) : Type 0 where
  pub letters : f ≡ 4 → region (LETTERS * n) n w ≡ map code v
  pub bits : f ≢ 4 → work_bits n w ≡ word_bits false v
  pub labels : f ≢ 4 → work_labels n w ≡ word_labels v

unfoldable pub area_payload : ℕ → ℕ → List ℕ → List ℕ
area_payload f n w = cond (eqb f 4) (letters_payload (letters_in n w)) (value_payload f (n / 2) (work_bits n w) (work_labels n w))

pub record Ready (n f at : ℕ) (w out : List ℕ) : Type 0 where
  pub is_family : is_family f ≡ true
  pub other : f ≢ 3
  pub spelling : List Letter
  pub spelt : Spelt n f spelling w
  pub long : length spelling ≡ n
  pub proper : valid f spelling ≡ true
  pub room : 16 * n ≤ length w
  pub begins : at ≤ 8
  pub space : at + payload_length f (n / 2) ≤ length out

abbrev pub Tabled : List ℕ → ℕ → ℕ → ℕ → List ℕ → List ℕ → List ℕ → Type 0
Tabled bs n f at w out out' = out' ≡ placed at (relabelled bs f (n / 2) (area_payload f n w)) out

pub record ToLay (k : ℕ) (p : Plan) (w out : List ℕ) : Type 0 where
  pub other : k ≢ 3
  pub fits : fit k p ≡ true
  pub spelt : Spelt (darts p) (family k) (word p) w
  pub marks : stores_outside k ≡ true → Marked p w
  pub room : 16 * darts p ≤ length w
  pub space : record_length k (edges p.rotation) ≤ length out

pub record Recorded (t : Table) (k : ℕ) (p : Plan) (out : List ℕ) (answer : ℕ) (out' : List ℕ) : Type 0 where
  pub answered : answer ≡ length (record_of t k p)
  pub filled : out' ≡ front (record_of t k p) out

abbrev pub RecordedUnder : List ℕ → ℕ → Plan → List ℕ → ℕ → List ℕ → Type 0
RecordedUnder bs k p out answer out' = (t : Table) → t.bytes ≡ bs → Recorded t k p out answer out'
