-- Payloads of kind 2 with one edge, made and taken apart by computing: what is clean, and what is not. Assumes nothing.
use mathlib.Core.Path.{◌≡◌, refl}
use mathlib.Core.Bool.{true, false}
use mathlib.Core.List.{[], ◌∷◌}
use Rattle.model.specs.Record.{digits_from, pack}
use Rattle.model.specs.Numbers.{all_below}
use Rattle.packing.specs.Unpack.{digits_of, unpack, bits, groups}
use Rattle.packing.specs.Payload.{value_payload, payload_bits, payload_labels, payload_clean}

made : value_payload 2 1 (1 ∷ 0 ∷ []) (2 ∷ []) ≡ 128 ∷ 162 ∷ []
unfolding value_payload pack digits_from
made = refl

bits_of : payload_bits 1 (128 ∷ 162 ∷ []) ≡ 1 ∷ 0 ∷ []
unfolding payload_bits bits unpack digits_of
bits_of = refl

labels_of_lem : payload_labels 2 1 (128 ∷ 162 ∷ []) ≡ 2 ∷ []
unfolding payload_labels groups unpack digits_of
labels_of_lem = refl

clean : payload_clean 2 1 (128 ∷ 162 ∷ []) ≡ true
unfolding payload_clean bits groups unpack digits_of all_below
clean = refl

padding_bit : payload_clean 2 1 (129 ∷ 162 ∷ []) ≡ false
unfolding payload_clean bits groups unpack digits_of all_below
padding_bit = refl

fill_label : payload_clean 2 1 (128 ∷ 163 ∷ []) ≡ false
unfolding payload_clean bits groups unpack digits_of all_below
fill_label = refl

above_242 : payload_clean 2 1 (128 ∷ 243 ∷ []) ≡ false
unfolding payload_clean bits groups unpack digits_of all_below
above_242 = refl
