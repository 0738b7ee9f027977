-- The bytes of a record.
--
--   digits base w ds      the number whose w digits are the first of ds, highest first, filled up with 0; digits_from, behind a number
--   pack base w n ds      n such numbers: ds in groups of w
--   bytes_for n w          how many groups of w hold n digits
--   le16 n                n in two bytes, the low one first
--   head_length k          how many bytes stand before the payload of a record of kind k
--   length_varies k        m does not fix the length of a record of kind k
--   payload_length f m     the length of the payload of a record of family f with m edges, where m fixes it
--   record_length k m      the length of a record of kind k with m edges, where m fixes it
--   payload t f m bits labels   tree bits and labels in bytes, groups under the table t
--   mesh_payload t ts      node types in bytes, groups under the table t
--   label_base f           labels of family f are below it
--   contour_bits l d       the two bits of a dart d with the letter l
--   headed k m rest       the bytes rest behind length, kind and m
--   payload_of t f p       the payload of plan p in family f
--   outside_bytes k p      the outside's bytes; none in a kind without them
--   record_of t k p        the record of plan p in kind k under the table t
use Rattle.std.specs.Prelude.{ℕ, zero, suc, ◌+◌, ◌-◌, ◌*◌, ◌/◌, ◌%◌, Bool, cond, List, [], ◌∷◌, ◌++◌, map, eqb, length, drop}
use Rattle.model.specs.declared.Table.{Table}
use Rattle.model.specs.Map.{Plan, edges, stores_outside, family}
use Rattle.model.specs.Traversal.{Letter, down, up, first, second, visits, standard_face}
use Rattle.model.specs.LabelledTree.{along, labels, tree_bits}
use Rattle.model.specs.Mesh.{types, type_bits, type_digits}
use Rattle.model.specs.Groups.{byte_for}

-- `so_far` is the number that the digits before make
unfoldable pub digits_from : ℕ → ℕ → ℕ → List ℕ → ℕ
digits_from base so_far zero ds = so_far
digits_from base so_far (suc w) [] = digits_from base (so_far * base) w []
digits_from base so_far (suc w) (d ∷ ds) = digits_from base (so_far * base + d) w ds

abbrev pub digits : ℕ → ℕ → List ℕ → ℕ
digits base w ds = digits_from base 0 w ds

unfoldable pub pack : ℕ → ℕ → ℕ → List ℕ → List ℕ
pack base w zero ds = []
pack base w (suc n) ds = digits base w ds ∷ pack base w n (drop w ds)

abbrev pub bytes_for : ℕ → ℕ → ℕ
bytes_for n w = (n + (w - 1)) / w

-- "All fields are little-endian"
unfoldable pub le16 : ℕ → List ℕ
le16 n = n % 256 ∷ n / 256 % 256 ∷ []

-- "Kind 1: .. Length 6 plus 3m/8 rounded up"; "Kind 2: .. Length 6 plus 2m/8 rounded up plus m/5 rounded up"; kind 4, document 02 (c): "Its length is 6
-- plus m/2 rounded up." Of the kinds that store the outside, document 02 (e): "Their lengths are 2 more."
unfoldable pub head_length : ℕ → ℕ
head_length k = cond (stores_outside k) 8 6

-- document 02 (f), of kind 3: "The length varies"
abbrev pub length_varies : ℕ → Bool
length_varies k = eqb k 3

unfoldable pub payload_length : ℕ → ℕ → ℕ
payload_length f m = cond (eqb f 1) (bytes_for (3 * m) 8) (cond (eqb f 2) (bytes_for (2 * m) 8 + bytes_for m 5) (bytes_for m 2))

unfoldable pub record_length : ℕ → ℕ → ℕ
record_length k m = head_length k + payload_length (family k) m

-- "Kind 1: tree bits, then m label bits, unbroken; padded once." "Kind 2: tree bits padded to a byte, then labels in groups of five (0, 1, star = 2),
-- first label highest in base 3, one byte a group, the last group filled with 0." "Bits fill a byte from its highest bit; unused low bits are 0." A group's byte
-- is the table's for its value, document 02 (h).
unfoldable pub payload : Table → ℕ → ℕ → List ℕ → List ℕ → List ℕ
payload t f m bits labels =
    cond (eqb f 1) (pack 2 8 (bytes_for (3 * m) 8) (bits ++ labels))
    (pack 2 8 (bytes_for (2 * m) 8) bits ++ map (byte_for t) (pack 3 5 (bytes_for m 5) labels))

-- document 02 (f): ".. in code A padded to a byte; then types 3, 4, 5 as digits 0, 1, 2 in groups of five"
unfoldable pub mesh_payload : Table → List ℕ → List ℕ
mesh_payload t ts =
    let bits = type_bits ts in
    let digits = type_digits ts in
    pack 2 8 (bytes_for (length bits) 8) bits ++ map (byte_for t) (pack 3 5 (bytes_for (length digits) 5) digits)

-- "Kind 1: .. m label bits"; "Kind 2: .. labels .. (0, 1, star = 2)"
unfoldable pub label_base : ℕ → ℕ
label_base f = cond (eqb f 1) 2 3

-- document 02 (c): "two bits for each dart in contour order, 00 going down, 01 coming up, 10 for the first-met dart of another trail, 11 for its second"
unfoldable pub contour_bits : Letter → ℕ → List ℕ
contour_bits down d = 0 ∷ 0 ∷ []
contour_bits up d = 0 ∷ 1 ∷ []
contour_bits first d = 1 ∷ 0 ∷ []
contour_bits second d = 1 ∷ 1 ∷ []

-- "length of the whole record (2 bytes), kind (2 bytes, ..), m (2 bytes), payload"
unfoldable pub headed : ℕ → ℕ → List ℕ → List ℕ
headed k m rest = le16 (6 + length rest) ++ (le16 k ++ (le16 m ++ rest))

unfoldable pub payload_of : Table → ℕ → Plan → List ℕ
payload_of t f p =
    let m = edges p.rotation in
    cond (eqb f 4) (pack 2 8 (bytes_for (4 * m) 8) (along contour_bits (visits p)))
    (cond (eqb f 3) (mesh_payload t (types p)) (payload t f m (tree_bits p) (labels p)))

-- document 02 (e): "with two more bytes after m: the lowest standard dart of the outside area"; "A kind without these bytes ignores the outside in writing"
unfoldable pub outside_bytes : ℕ → Plan → List ℕ
outside_bytes k p = cond (stores_outside k) (le16 (standard_face p p.outside)) []

unfoldable pub record_of : Table → ℕ → Plan → List ℕ
record_of t k p = headed k (edges p.rotation) (outside_bytes k p ++ payload_of t (family k) p)
