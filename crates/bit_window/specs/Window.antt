-- A window on a list of bits.
--
--   shifted word          the window moved on by one bit
--   Holds bs word k n     the n highest bits of the number word are the bits from place k on of bs; past its end they are 0
use Rattle.std.specs.Prelude.{ℕ, zero, suc, ◌+◌, ◌*◌, ◌/◌, ◌%◌, ◌^◌, ◌≡◌, List, get_or}

abbrev pub shifted : ℕ → ℕ
shifted word = word * 2 % 2 ^ 64

unfoldable pub Holds : List ℕ → ℕ → ℕ → ℕ → Type 0
Holds bs word k zero = Unit
Holds bs word k (suc n) = (word / 2 ^ 63 ≡ get_or bs k 0) × Holds bs (shifted word) (k + 1) n
