-- The payload of kind 4: each letter of the contour word is a digit to the base 4, its two bits, and four of them are a byte.
--
--   letter_digit l         the digit of the letter l
--   digit_letter x         the letter with the digit x
--   letters_payload w      the payload that holds the word w
--   payload_letters m ps   the 2m letters in the payload ps
--   letters_clean m ps     the unused bits of ps are 0
use Rattle.std.specs.Prelude.{ℕ, ◌*◌, Bool, cond, List, map, eqb, length, take}
use Rattle.model.specs.Traversal.{Letter, down, up, first, second}
use Rattle.model.specs.Record.{pack, bytes_for}
use Rattle.packing.specs.Unpack.{unpack}
use Rattle.packing.specs.Payload.{blank_from}

unfoldable pub letter_digit : Letter → ℕ
letter_digit down = 0
letter_digit up = 1
letter_digit first = 2
letter_digit second = 3

unfoldable pub digit_letter : ℕ → Letter
digit_letter x = cond (eqb x 0) down (cond (eqb x 1) up (cond (eqb x 2) first second))

unfoldable pub letters_payload : List Letter → List ℕ
letters_payload w = pack 4 4 (bytes_for (length w) 4) (map letter_digit w)

unfoldable pub payload_letters : ℕ → List ℕ → List Letter
payload_letters m ps = map digit_letter (take (2 * m) (unpack 4 4 (length ps) ps))

-- "unused low bits are 0"
unfoldable pub letters_clean : ℕ → List ℕ → Bool
letters_clean m ps = blank_from (2 * m) (unpack 4 4 (length ps) ps)
