-- How many records stand among bytes.
--
--   count_of bs            how many records bs are end to end; none if they are not
use Rattle.std.specs.Prelude.{cond, List, ℕ, length, Option, Some, None}
use Rattle.model.specs.Shelf.{records_in, end_to_end}

unfoldable pub count_of : List ℕ → Option ℕ
count_of bs = cond (end_to_end bs) (Some (length (records_in bs))) None
