-- The payload of kind 4 made of letters, and taken apart again. Assumes nothing.
--
--   digit_letter_lem, letter_digit_lem   a letter and its digit undo one another
--   digits_small          the digits of letters are below 4
--   letters_long, letters_bytes   a payload's length, and that its entries are bytes
--   letters_back, letters_clean_lem   the letters come back, and the unused bits are 0
--   letters_count         2m letters are taken out of any payload of the right length
--   letters_again         a clean payload is made of the letters that are taken out of it
--   contour_packed        two bits for each letter are its digit to the base 4
use Prim.Native.Nat.{ℕ, zero, suc, ◌+◌, ◌*◌, ◌<◌}
use native.Mathlib.Omega.{arith}
use mathlib.Core.Path.{◌≡◌, refl, ap, ◌∙◌}
use mathlib.Core.Bool.{true}
use mathlib.Core.List.{List, [], ◌∷◌, ◌++◌, map}
use lib.ListN.{length, take, drop, length-map}
use lib.Seq.{take_at, length-take-le}
use Rattle.model.specs.Numbers.{all_below}
use Rattle.model.specs.Traversal.{Letter, down, up, first, second, Visit}
use Rattle.model.specs.LabelledTree.{along}
use Rattle.model.specs.Record.{digits_from, digits, pack, bytes_for, contour_bits}
use Rattle.model.proofs.Below.{below_cons, below_head, below_tail, below_take}
use Rattle.packing.specs.Unpack.{unpack}
use Rattle.packing.specs.Letters.{letter_digit, digit_letter, letters_payload, payload_letters, letters_clean}
use Rattle.packing.proofs.Packed.{pack_length, pack_below, length_unpack, unpack_below, unpack_packed, blank_past, pack_front}

-- ---- letters and digits

pub digit_letter_lem : (l : Letter) → digit_letter (letter_digit l) ≡ l
unfolding letter_digit digit_letter
digit_letter_lem down = refl
digit_letter_lem up = refl
digit_letter_lem first = refl
digit_letter_lem second = refl

pub letter_digit_lem : (x : ℕ) → x < 4 → letter_digit (digit_letter x) ≡ x
unfolding letter_digit digit_letter
letter_digit_lem zero h = refl
letter_digit_lem (suc zero) h = refl
letter_digit_lem (suc (suc zero)) h = refl
letter_digit_lem (suc (suc (suc zero))) h = refl
letter_digit_lem (suc (suc (suc (suc x)))) h = absurd (omega arith)

digit_small : (l : Letter) → letter_digit l < 4
unfolding letter_digit
digit_small down = omega arith
digit_small up = omega arith
digit_small first = omega arith
digit_small second = omega arith

abbrev digits_in : List Letter → List ℕ
digits_in w = map letter_digit w

pub digits_small : (w : List Letter) → all_below 4 (map letter_digit w) ≡ true
unfolding all_below
digits_small [] = refl
digits_small (l ∷ w) = below_cons 4 (letter_digit l) (digits_in w) (digit_small l) (digits_small w)

digits_letters : (w : List Letter) → map digit_letter (digits_in w) ≡ w
digits_letters [] = refl
digits_letters (l ∷ w) = rw (digit_letter_lem l, digits_letters w)

letters_digits : (ds : List ℕ) → all_below 4 ds ≡ true → digits_in (map digit_letter ds) ≡ ds
letters_digits [] e = refl
letters_digits (d ∷ ds) e = rw (letter_digit_lem d (below_head 4 d ds e), letters_digits ds (below_tail 4 d ds e))

-- ---- from letters to a payload

module _ (w : List Letter) where
  pub letters_long : length (letters_payload w) ≡ bytes_for (length w) 4
  unfolding letters_payload
  letters_long = pack_length 4 4 (bytes_for (length w) 4) (digits_in w)

  pub letters_bytes : all_below 256 (letters_payload w) ≡ true
  unfolding letters_payload
  letters_bytes = pack_below 4 4 (omega arith) (bytes_for (length w) 4) (digits_in w) (digits_small w)

  module _ (m : ℕ) (size : length w ≡ 2 * m) where
    pub letters_back : payload_letters m (letters_payload w) ≡ w
    unfolding payload_letters letters_payload
    letters_back =
        let l = length-map w letter_digit in
        rw (
          unpack_packed 4 4 (omega arith) (bytes_for (length w) 4) (digits_in w) (digits_small w) (omega arith),
          take_at (digits_in w) _ (2 * m) (l ∙ size),
        ) (digits_letters w)

    pub letters_clean_lem : letters_clean m (letters_payload w) ≡ true
    unfolding letters_clean letters_payload
    letters_clean_lem =
        blank_past 4 4 (omega arith) (bytes_for (length w) 4) (digits_in w) (2 * m) (length-map w letter_digit ∙ size) (digits_small w) (omega arith)

-- ---- from a payload to letters

module _ (m : ℕ) (ps : List ℕ) (size : length ps ≡ bytes_for m 2) where
  abbrev found : List ℕ
  found = take (2 * m) (unpack 4 4 (length ps) ps)

  found_count : length found ≡ 2 * m
  found_count = let u = length_unpack 4 4 (length ps) ps in length-take-le (2 * m) (unpack 4 4 (length ps) ps) (omega arith)

  pub letters_count : length (payload_letters m ps) ≡ 2 * m
  unfolding payload_letters
  letters_count = length-map found digit_letter ∙ found_count

  pub letters_again : all_below 256 ps ≡ true → letters_clean m ps ≡ true → letters_payload (payload_letters m ps) ≡ ps
  unfolding letters_payload payload_letters letters_clean
  letters_again bytes clean =
      let few : bytes_for (2 * m) 4 ≡ bytes_for m 2 = omega arith in
      rw (
        length-map found digit_letter,
        found_count,
        few,
        letters_digits found (below_take 4 (2 * m) _ (unpack_below 4 4 (omega arith) (length ps) ps)),
      ) (pack_front 4 4 (omega arith) (bytes_for m 2) (2 * m) ps bytes size clean)

-- ---- two bits a letter

twice : ℕ → ℕ
twice zero = zero
twice (suc n) = suc (suc (twice n))

abbrev bits_along : List Visit → List ℕ
bits_along vs = along contour_bits vs

abbrev digits_along : List Visit → List ℕ
digits_along vs = digits_in (map (λ v. v.letter) vs)

-- a letter's bits are its digit
two_bits : (l : Letter) (d s w : ℕ) (bs : List ℕ) → digits_from 2 s (suc (suc w)) (contour_bits l d ++ bs) ≡ digits_from 2 (s * 4 + letter_digit l) w bs
unfolding digits_from contour_bits letter_digit
two_bits down d s w bs = let e : (s * 2 + 0) * 2 + 0 ≡ s * 4 + 0 = omega arith in rw e
two_bits up d s w bs = let e : (s * 2 + 0) * 2 + 1 ≡ s * 4 + 1 = omega arith in rw e
two_bits first d s w bs = let e : (s * 2 + 1) * 2 + 0 ≡ s * 4 + 2 = omega arith in rw e
two_bits second d s w bs = let e : (s * 2 + 1) * 2 + 1 ≡ s * 4 + 3 = omega arith in rw e

same_number : (s w : ℕ) (vs : List Visit) → digits_from 2 s (twice w) (bits_along vs) ≡ digits_from 4 s w (digits_along vs)
unfolding digits_from along twice
same_number s zero vs = refl
same_number s (suc w) [] = let e : s * 2 * 2 ≡ s * 4 = omega arith in rw e (same_number (s * 4) w [])
same_number s (suc w) (v ∷ vs) =
    two_bits v.letter v.dart s (twice w) (bits_along vs) ∙ same_number (s * 4 + letter_digit v.letter) w vs

drop_two : (l : Letter) (d w : ℕ) (bs : List ℕ) → drop (suc (suc w)) (contour_bits l d ++ bs) ≡ drop w bs
unfolding contour_bits
drop_two down d w bs = refl
drop_two up d w bs = refl
drop_two first d w bs = refl
drop_two second d w bs = refl

drop_bits : (w : ℕ) (vs : List Visit) → drop (twice w) (bits_along vs) ≡ bits_along (drop w vs)
unfolding along twice
drop_bits zero vs = refl
drop_bits (suc w) [] = refl
drop_bits (suc w) (v ∷ vs) = drop_two v.letter v.dart (twice w) (bits_along vs) ∙ drop_bits w vs

drop_digits : (w : ℕ) (vs : List Visit) → drop w (digits_along vs) ≡ digits_along (drop w vs)
drop_digits zero vs = refl
drop_digits (suc w) [] = refl
drop_digits (suc w) (v ∷ vs) = drop_digits w vs

pub contour_packed : (n : ℕ) (vs : List Visit) → pack 2 8 n (along contour_bits vs) ≡ pack 4 4 n (map letter_digit (map (λ v. v.letter) vs))
unfolding pack twice
contour_packed zero vs = refl
contour_packed (suc n) vs =
    rw (same_number 0 4 vs, drop_bits 4 vs, drop_digits 4 vs) (ap (λ (r : List ℕ). digits 4 4 (digits_along vs) ∷ r) (contour_packed n (drop 4 vs)))
