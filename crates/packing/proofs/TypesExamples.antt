-- The payloads of small meshes, made and taken apart by computing: what is clean, what is not, and where codewords end. Assumes nothing.
use mathlib.Core.Path.{◌≡◌, refl}
use mathlib.Core.List.{[], ◌∷◌}
use Rattle.model.specs.Numbers.{all_below}
use Rattle.model.specs.Mesh.{code_a, digit_of, type_bits, type_digits}
use Rattle.model.specs.Record.{pack, digits_from}
use Rattle.packing.specs.Unpack.{digits_of, unpack, bits, groups}
use Rattle.packing.specs.Types.{types_payload, typed, untyped, read_codes, with_digits, code_bytes, clean, types_from, types_in}

triangle : types_payload (5 ∷ []) ≡ 0x80 ∷ 0xA2 ∷ []
unfolding types_payload pack digits_from type_bits type_digits code_a digit_of
triangle = refl

six_edges_1 : types_payload (2 ∷ 3 ∷ 5 ∷ []) ≡ 0x70 ∷ 0x36 ∷ []
unfolding types_payload pack digits_from type_bits type_digits code_a digit_of
six_edges_1 = refl

six_edges_2 : types_payload (2 ∷ 4 ∷ 5 ∷ []) ≡ 0x70 ∷ 0x87 ∷ []
unfolding types_payload pack digits_from type_bits type_digits code_a digit_of
six_edges_2 = refl

six_edges_3 : types_payload (3 ∷ 2 ∷ 5 ∷ []) ≡ 0xB0 ∷ 0x36 ∷ []
unfolding types_payload pack digits_from type_bits type_digits code_a digit_of
six_edges_3 = refl

six_edges_4 : types_payload (4 ∷ 2 ∷ 5 ∷ []) ≡ 0xB0 ∷ 0x87 ∷ []
unfolding types_payload pack digits_from type_bits type_digits code_a digit_of
six_edges_4 = refl

triangle_read : types_in 3 (0x80 ∷ 0xA2 ∷ []) ≡ typed (5 ∷ [])
unfolding types_in types_from read_codes with_digits clean type_digits digit_of bits groups unpack digits_of all_below
triangle_read = refl

triangle_padded : types_in 3 (0xC0 ∷ 0xA2 ∷ []) ≡ untyped
unfolding types_in types_from read_codes with_digits clean type_digits digit_of bits groups unpack digits_of all_below
triangle_padded = refl

triangle_filled : types_in 3 (0x80 ∷ 0xA3 ∷ []) ≡ untyped
unfolding types_in types_from read_codes with_digits clean type_digits digit_of bits groups unpack digits_of all_below
triangle_filled = refl

triangle_long : types_in 3 (0x80 ∷ 0xA2 ∷ 0 ∷ []) ≡ untyped
unfolding types_in types_from read_codes with_digits clean type_digits digit_of bits groups unpack digits_of all_below
triangle_long = refl

six_edges_end : code_bytes 6 (0x70 ∷ 0x36 ∷ []) ≡ 1
unfolding code_bytes read_codes bits unpack digits_of
six_edges_end = refl

-- five codewords of two bits, and no room for the last
nine_edges_end : code_bytes 9 (0 ∷ 0 ∷ 0 ∷ []) ≡ 2
unfolding code_bytes read_codes bits unpack digits_of
nine_edges_end = refl

nine_edges_short : code_bytes 9 (0 ∷ []) ≡ 1
unfolding code_bytes read_codes bits unpack digits_of
nine_edges_short = refl
