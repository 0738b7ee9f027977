-- Words and payloads of families 1 and 2: tree bits and labels in bytes.
--
--   labelled_sized, labelled_bytes   a valid word's payload has the length for its family, and its entries are bytes
--   labelled_values       its groups are values
--   labelled_decodes      it is decoded to the word
--   decodes_labelled      a payload that is decoded is the valid word's
--   payload_labelled      the payload of a fit plan is its word's
use Prim.Native.Nat.{ℕ, ◌*◌, ◌/◌}
use native.Mathlib.Omega.{arith}
use mathlib.Core.Path.{◌≡◌, ◌∙◌}
use mathlib.Core.Bool.{true, false}
use mathlib.Core.List.{List, []}
use lib.ListN.{length}
use Rattle.model.specs.Numbers.{all_below}
use Rattle.model.specs.Map.{Plan, edges, family, dart_count_fits, fit}
use Rattle.model.specs.Traversal.{Letter, word}
use Rattle.model.specs.LabelledTree.{tree_bits, labels}
use Rattle.model.specs.Record.{payload_length}
use Rattle.model.proofs.Fitness.{fit_parts, loopless}
use Rattle.words.specs.Word.{found, nested, valid, word_bits, word_labels}
use Rattle.words.proofs.Found.{when_found}
use Rattle.words.proofs.Positions.{word_length}
use Rattle.words.proofs.Validity.{valid_strict, valid_plain}
use Rattle.machine.proofs.Encoding.{decode_encode}
use Rattle.machine.proofs.Decoding.{encode_decode}
use Rattle.machine.proofs.Sizes.{bits_length, letters_length, labels_bound}
use Rattle.machine.proofs.Bounds.{bits_below}
use Rattle.packing.specs.Payload.{has_labels, value_payload, payload_bits, payload_labels, payload_clean}
use Rattle.packing.specs.Groups.{Values}
use Rattle.packing.proofs.Groups.{clean_values}
use Rattle.packing.proofs.Labelled.{labelled_family, labelled_strict}
use Rattle.packing.proofs.Payload.{payload_length_lem, Parts, payload_bits_lem, payload_labels_lem, payload_clean_lem, payload_bytes, unpayload_parts, payload_unpayload}
use Rattle.coding.specs.Payloads.{encode_labelled, decode_labelled}
use Rattle.fit_plans.proofs.FitPlans.{fit_toured, fit_bits, fit_labels}

module _ (f : ℕ) (has : has_labels f ≡ true) where
  -- ---- from words to payloads

  module _ (w : List Letter) (v : valid f w ≡ true) where
    abbrev half : ℕ
    half = length w / 2

    strict : nested false 1 0 [] [] w ≡ true
    strict = valid_strict f w v (labelled_strict f has)

    parts : Parts f half (word_bits false w) (word_labels w)
    parts =
        let n = letters_length w strict in
        record {
          bit_count = bits_length w strict ∙ omega arith;
          bits_fit = bits_below false w;
          label_count = omega arith;
          labels_fit = labels_bound f w (valid_plain f w v);
        }

    pub labelled_sized : length (encode_labelled f w) ≡ payload_length f (length w / 2)
    unfolding encode_labelled
    labelled_sized = payload_length_lem f half (word_bits false w) (word_labels w) has

    pub labelled_values : Values f (length w / 2) (encode_labelled f w)
    unfolding encode_labelled
    labelled_values = clean_values f half _ has (payload_clean_lem f half (word_bits false w) (word_labels w) has parts)

    pub labelled_bytes : all_below 256 (encode_labelled f w) ≡ true
    unfolding encode_labelled
    labelled_bytes = payload_bytes f half (word_bits false w) (word_labels w) has parts

    pub labelled_decodes : decode_labelled f (length w / 2) (encode_labelled f w) ≡ found w
    unfolding encode_labelled decode_labelled
    labelled_decodes =
        rw (
          payload_clean_lem f half (word_bits false w) (word_labels w) has parts,
          payload_bits_lem f half (word_bits false w) (word_labels w) has parts,
          payload_labels_lem f half (word_bits false w) (word_labels w) has parts,
        )
        (decode_encode w strict)

  -- ---- from payloads to words

  pub decodes_labelled : (m : ℕ) (ps : List ℕ) (w : List Letter) → dart_count_fits (2 * m) ≡ true → length ps ≡ payload_length f m
      → all_below 256 ps ≡ true → decode_labelled f m ps ≡ found w → (valid f w ≡ true) × (encode_labelled f w ≡ ps) × (length w ≡ 2 * m)
  unfolding encode_labelled decode_labelled
  decodes_labelled m ps w count long bytes e =
      let (clean, read) = when_found (payload_clean f m ps) _ w e in
      let p = unpayload_parts f m ps has long in
      let (proper, bits, marks, size) = encode_decode f (payload_bits m ps) (payload_labels f m ps) w (labelled_family f has) (labelled_strict f has) m count
      p.bit_count p.label_count p.bits_fit p.labels_fit read in
      let same : length w / 2 ≡ m = omega arith in
      (proper, rw (same, bits, marks) (payload_unpayload f m ps has long bytes clean), size)

pub payload_labelled : (k : ℕ) → has_labels (family k) ≡ true → (p : Plan) → fit k p ≡ true
    → value_payload (family k) (edges p.rotation) (tree_bits p) (labels p) ≡ encode_labelled (family k) (word p)
unfolding encode_labelled edges
payload_labelled k has p e =
    let no_loop = loopless (family k) p.rotation (fit_parts k p e).loops (labelled_strict (family k) has) in
    rw (word_length p (fit_toured k p e), fit_bits k p e no_loop, fit_labels k p e no_loop)
