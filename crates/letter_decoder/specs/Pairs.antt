-- Where letters stand in a payload.
--
--   letters_of n x            the n letters in the high bits of the byte x
--   pair_at ps i              the pair of letters number i in the payload ps
use Rattle.std.specs.Prelude.{ℕ, zero, suc, ◌+◌, ◌*◌, ◌/◌, ◌%◌, List, [], ◌∷◌, length, get_or}
use Rattle.model.specs.Traversal.{Letter}
use Rattle.packing.specs.Unpack.{unpack}
use Rattle.packing.specs.Letters.{digit_letter}

unfoldable pub letters_of : ℕ → ℕ → List Letter
letters_of zero x = []
letters_of (suc n) x = digit_letter (x / 64) ∷ letters_of n (x * 4 % 256)

unfoldable pub pair_at : List ℕ → ℕ → List Letter
pair_at ps i = let ds = unpack 4 4 (length ps) ps in digit_letter (get_or ds (2 * i) 0) ∷ digit_letter (get_or ds (2 * i + 1) 0) ∷ []
