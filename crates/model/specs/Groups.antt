-- The group table (document 02 (h)): which byte stands for which value of a group of five labels. The values are those below 243, 3 to the power of 5.
--
--   byte_for t v           the byte for group value v
--   is_table bs            bs are 243 bytes, no two of them equal
--   inverse_of bs          for each byte its group value, 243 if it has none
--   loaded bs             the table that loading gives for bs
--   standard_table         the table of 0, 1, .., 242
--   no_table               the table that a refused loading returns: all zeros
use Rattle.std.specs.Prelude.{ℕ, Bool, ◌&&◌, List, eqb, length, get_or, replicate}
use Rattle.model.specs.declared.Table.{Table}
use Rattle.model.specs.Numbers.{distinct, all_below, position, tabulate}

-- "entry n being the byte for group value n"
unfoldable pub byte_for : Table → ℕ → ℕ
byte_for t v = get_or t.bytes v 0

-- "A maker may lend 243 bytes of its own"; 19, "not 243 bytes or two of them equal"
unfoldable pub is_table : List ℕ → Bool
is_table bs = eqb (length bs) 243 && (all_below 256 bs && distinct bs)

unfoldable pub inverse_of : List ℕ → List ℕ
inverse_of bs = tabulate (λ b. position b bs) 0 256

unfoldable pub loaded : List ℕ → Table
loaded bs = record { bytes = bs; inverse = inverse_of bs }

-- "one byte a group", the group's value itself
unfoldable pub standard_table : Table
standard_table = loaded (tabulate (λ v. v) 0 243)

unfoldable pub no_table : Table
no_table = record { bytes = replicate 243 0; inverse = replicate 256 0 }
