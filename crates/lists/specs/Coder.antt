-- What is to be known of one kind of record: how its plans, their words and their payloads belong together.
--
--   outside_of r           the number of the outside that the bytes r name; 0 in a kind without it
--   Coder k               plans that are fit for kind k are coded by words, and the words by payloads of values, whatever the table
use Rattle.std.specs.Prelude.{ℕ, ◌*◌, ◌/◌, ◌≤◌, ◌≡◌, true, cond, List, length}
use Rattle.model.specs.declared.Table.{Table}
use Rattle.model.specs.Numbers.{all_below}
use Rattle.model.specs.Map.{Plan, darts, edges, stores_outside, family, fit}
use Rattle.model.specs.Traversal.{Letter, standard_numbers, standard_rotation, standard_plan}
use Rattle.model.specs.Record.{payload_of}
use Rattle.model.specs.Shelf.{word16, kind_of}
use Rattle.model.specs.Renumbering.{Renumbering}
use Rattle.model.proofs.Outside.{with_outside}
use Rattle.words.specs.Word.{rooted, Found, found}
use Rattle.packing.specs.Payload.{Sized}
use Rattle.packing.specs.Groups.{relabelled, Values}

unfoldable pub outside_of : List ℕ → ℕ
outside_of r = cond (stores_outside (kind_of r)) (word16 r 6) 0

pub record Coder (k : ℕ) : Type 1 where
  -- the word that a plan is coded by, the standard rotation that a word builds, and which words these are
  pub codes : Plan → List Letter
  pub builds : List Letter → List ℕ
  pub Proper : List Letter → Type 0
  pub proper : (p : Plan) → fit k p ≡ true → Proper (codes p)
  pub letters : (p : Plan) → fit k p ≡ true → length (codes p) ≡ darts p
  pub standard : (p : Plan) → fit k p ≡ true → standard_rotation p ≡ builds (codes p)
  pub numbered : (p : Plan) → fit k p ≡ true → Renumbering p (standard_plan p) (standard_numbers p)
  pub built : (w : List Letter) → Proper w → (fit k (rooted (builds w)) ≡ true) × (codes (rooted (builds w)) ≡ w)
  -- one word, one plan up to renumbering, wherever the outside is
  pub anywhere : (p : Plan) (o : ℕ) → codes (with_outside p o) ≡ codes p
  pub carried : (p q : Plan) (f : List ℕ) → fit k p ≡ true → Renumbering p q f → codes p ≡ codes q
  pub alike : (p q : Plan) → fit k p ≡ true → fit k q ≡ true → codes p ≡ codes q → (f : List ℕ) × Renumbering p q f
  -- payloads of words, of values; a table's bytes come in once, from outside
  pub encode : List Letter → List ℕ
  pub decode : ℕ → List ℕ → Found
  pub written : (t : Table) (p : Plan) → fit k p ≡ true
      → payload_of t (family k) p ≡ relabelled t.bytes (family k) (edges p.rotation) (encode (codes p))
  pub sized : (w : List Letter) → Proper w → Sized (family k) (length w / 2) (encode w)
  pub short : (w : List Letter) → Proper w → length (encode w) ≤ 2048
  pub values : (w : List Letter) → Proper w → Values (family k) (length w / 2) (encode w)
  pub bytes : (w : List Letter) → Proper w → all_below 256 (encode w) ≡ true
  pub reads : (w : List Letter) → Proper w → decode (length w / 2) (encode w) ≡ found w
  pub made : (m : ℕ) (ps : List ℕ) (w : List Letter) → Sized (family k) m ps → all_below 256 ps ≡ true → decode m ps ≡ found w
      → Proper w × (encode w ≡ ps) × (length w ≡ 2 * m)
