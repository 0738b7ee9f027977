-- What the search for a record gives.
--
--   search_in r rs         among the records rs
--   search_of r bs         among bytes, if they are records end to end; else none
use Rattle.std.specs.Prelude.{cond, List, ℕ, eqb, length, Option, Some, None}
use Rattle.searching.specs.declared.Searched.{Searched}
use Rattle.searching.specs.declared.Searched.TheVariants.{There, Missing}
use Rattle.model.specs.Shelf.{records_in, end_to_end, first_equal, compared}

unfoldable pub search_in : List ℕ → List (List ℕ) → Searched
search_in r rs =
    let n = first_equal r rs in
    let c = compared r rs in
    cond (eqb n (length rs)) (Missing n c) (There n c)

unfoldable pub search_of : List ℕ → List ℕ → Option Searched
search_of r bs = cond (end_to_end bs) (Some (search_in r (records_in bs))) None
