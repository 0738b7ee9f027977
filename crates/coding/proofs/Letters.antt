-- Words and payloads of family 4: the letters themselves.
--
--   letters_sized         a valid word's payload has the length for its family
--   letters_decode        it is decoded to the word
--   decodes_letters       a payload that is decoded is the valid word's
--   payload_letters_lem       the payload of a fit plan is its word's
use Prim.Native.Nat.{ℕ, ◌*◌, ◌/◌}
use native.Mathlib.Omega.{arith}
use mathlib.Core.Path.{◌≡◌, refl, sym, ap, ◌∙◌}
use mathlib.Core.Bool.{true, false≢true}
use mathlib.Core.List.{List, []}
use lib.ListN.{length}
use Rattle.model.specs.Numbers.{elem, all_below}
use Rattle.model.specs.Map.{Plan, edges, is_family, dart_count_fits, fit}
use Rattle.model.specs.Traversal.{Letter, visits, word}
use Rattle.model.specs.LabelledTree.{along}
use Rattle.model.specs.Record.{pack, bytes_for, payload_length, contour_bits}
use Rattle.model.proofs.Fitness.{fit_parts, count_parts}
use Rattle.words.specs.Word.{found, nested, valid, nested_word}
use Rattle.words.proofs.Found.{when_found, found_same}
use Rattle.words.proofs.Positions.{word_length}
use Rattle.words.proofs.Validity.{valid_fits, valid_nested, valid_of}
use Rattle.packing.specs.Letters.{letters_payload, payload_letters, letters_clean}
use Rattle.packing.proofs.Letters.{letters_long, letters_back, letters_clean_lem, letters_count, letters_again, contour_packed}
use Rattle.coding.specs.Payloads.{decode_letters}
use Rattle.fit_plans.proofs.FitPlans.{fit_toured}

-- ---- from words to payloads

module _ (w : List Letter) (v : valid 4 w ≡ true) where
  even : length w ≡ 2 * (length w / 2)
  even = let c = count_parts (length w) (valid_fits 4 w v) in omega arith

  pub letters_sized : length (letters_payload w) ≡ payload_length 4 (length w / 2)
  unfolding payload_length
  letters_sized = let l = letters_long w in let e = even in omega arith

  pub letters_decode : decode_letters (length w / 2) (letters_payload w) ≡ found w
  unfolding decode_letters nested_word
  letters_decode = rw (letters_clean_lem w (length w / 2) even, letters_back w (length w / 2) even, valid_nested 4 w v)

-- ---- from payloads to words

pub decodes_letters : (m : ℕ) (ps : List ℕ) (w : List Letter) → dart_count_fits (2 * m) ≡ true → length ps ≡ payload_length 4 m → all_below 256 ps ≡ true
    → decode_letters m ps ≡ found w → (valid 4 w ≡ true) × (letters_payload w ≡ ps) × (length w ≡ 2 * m)
unfolding decode_letters nested_word payload_length is_family elem
decodes_letters m ps w count long bytes e =
    let (clean, read) = when_found (letters_clean m ps) _ w e in
    let (nests, same) = when_found (nested true 1 0 [] [] (payload_letters m ps)) _ w read in
    let here : payload_letters m ps ≡ w = found_same _ w same in
    let few : length ps ≡ bytes_for m 2 = omega arith in
    let size : length w ≡ 2 * m = ap length (sym here) ∙ letters_count m ps few in (
      valid_of 4 w refl (rw size count) (rw here at nests) (λ one. absurd (false≢true one)),
      rw here at (letters_again m ps few bytes clean),
      size,
    )

pub payload_letters_lem : (k : ℕ) (p : Plan) → fit k p ≡ true → pack 2 8 (bytes_for (4 * edges p.rotation) 8) (along contour_bits (visits p)) ≡ letters_payload (word p)
unfolding letters_payload edges word
payload_letters_lem k p e =
    let n = word_length p (fit_toured k p e) in
    let c = count_parts _ (fit_parts k p e).count in
    let few : bytes_for (4 * (length p.rotation / 2)) 8 ≡ bytes_for (length (word p)) 4 = rw n (omega arith) in
    contour_packed (bytes_for (4 * (length p.rotation / 2)) 8) (visits p) ∙ rw few
