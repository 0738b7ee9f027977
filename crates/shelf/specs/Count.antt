-- How many records are on a shelf.
--
--   shelf_count s u        how many records are on the shelf s with used length u; none if 14 concerns it
use Rattle.std.specs.Prelude.{ℕ, cond, List, length, take, Option, Some, None}
use Rattle.model.specs.Shelf.{records_in, shelf_refused}

unfoldable pub shelf_count : List ℕ → ℕ → Option ℕ
shelf_count shelf used = cond (shelf_refused shelf used) None (Some (length (records_in (take used shelf))))
