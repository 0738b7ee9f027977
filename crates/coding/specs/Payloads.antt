-- Words and payloads of values.
--
--   encode_labelled f w    kinds 1 and 2: the payload that holds the tree bits and labels of the word w
--   decode_labelled f m ps the word that the bytes ps hold as such a payload of a record with m edges, if any
--   decode_letters m ps    kind 4: the word that the bytes ps hold, if any; its payload is `letters_payload`
--   encode_payload f w, decode_payload f m ps   the same, by family, but of family 3
--   encode_mesh w          kind 3: the payload that holds the types of the word w of a dual
--   mesh_room m            how many bytes serve for every such payload of m edges
--   spelled ts, decode_mesh m ps   the word of the dual that types are read as, and that the bytes ps hold, if any
--   decode_mesh_record inv r   the word of the dual that the record r of kind 3 holds, if any
--   mesh_rotation w        the standard rotation of the mesh whose dual has the word w
--   decode_record inv r    the word that the record r of another kind holds, if any, its groups undone by the inverse inv
use Rattle.std.specs.Prelude.{false, cond, List, ℕ, ◌+◌, ◌/◌, eqb, length, drop}
use Rattle.model.specs.Map.{family}
use Rattle.model.specs.Traversal.{Letter, standard_rotation}
use Rattle.model.specs.Mesh.{dual_plan}
use Rattle.model.specs.Record.{head_length}
use Rattle.model.specs.Shelf.{kind_of, edges_of}
use Rattle.words.specs.Word.{Found, none, word_bits, word_labels, decode_word, nested_word, plan_of}
use Rattle.packing.specs.Payload.{value_payload, payload_bits, payload_labels, payload_clean}
use Rattle.packing.specs.Groups.{undone}
use Rattle.packing.specs.Types.{types_payload, Types, typed, untyped, types_in}
use Rattle.node_types.specs.Machine.{word_of_types}
use Rattle.node_types.specs.Reduced.{word_types}
use Rattle.packing.specs.Letters.{letters_payload, payload_letters, letters_clean}

unfoldable pub encode_labelled : ℕ → List Letter → List ℕ
encode_labelled f w = value_payload f (length w / 2) (word_bits false w) (word_labels w)

unfoldable pub decode_labelled : ℕ → ℕ → List ℕ → Found
decode_labelled f m ps = cond (payload_clean f m ps) (decode_word (payload_bits m ps) (payload_labels f m ps)) none

unfoldable pub decode_letters : ℕ → List ℕ → Found
decode_letters m ps = cond (letters_clean m ps) (nested_word (payload_letters m ps)) none

unfoldable pub encode_payload : ℕ → List Letter → List ℕ
encode_payload f w = cond (eqb f 4) (letters_payload w) (encode_labelled f w)

unfoldable pub decode_payload : ℕ → ℕ → List ℕ → Found
decode_payload f m ps = cond (eqb f 4) (decode_letters m ps) (decode_labelled f m ps)

-- ---- meshes, by the word of the dual

unfoldable pub encode_mesh : List Letter → List ℕ
encode_mesh w = types_payload (word_types w)

unfoldable pub mesh_room : ℕ → ℕ
mesh_room m = (m + 9) / 8 + (m + 12) / 15

abbrev pub spelled : Types → Found
spelled (typed ts) = word_of_types ts
spelled untyped = none

unfoldable pub decode_mesh : ℕ → List ℕ → Found
decode_mesh m ps = spelled (types_in m ps)

-- ---- records

unfoldable pub decode_record : List ℕ → List ℕ → Found
decode_record inv r =
    let f = family (kind_of r) in
    decode_payload f (edges_of r) (undone inv f (edges_of r) (drop (head_length (kind_of r)) r))

unfoldable pub decode_mesh_record : List ℕ → List ℕ → Found
decode_mesh_record inv r = decode_mesh (edges_of r) (undone inv 3 (edges_of r) (drop 6 r))

-- the standard rotation of the mesh whose dual has the word w
unfoldable pub mesh_rotation : List Letter → List ℕ
mesh_rotation w = standard_rotation (dual_plan (plan_of w))
