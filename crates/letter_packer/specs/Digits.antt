-- The letters in the work area as digits.
--
--   digits_at i n w     the digits of the letters from position i on
use Rattle.std.specs.Prelude.{ℕ, List, map, drop}
use Rattle.packing.specs.Letters.{letter_digit}
use Rattle.work.specs.Letters.{letters_in}

unfoldable pub digits_at : ℕ → ℕ → List ℕ → List ℕ
digits_at i n w = drop i (map letter_digit (letters_in n w))
