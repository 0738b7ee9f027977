-- Where a record belongs on a shelf: it is there, it is new, or it is refused.
--
--   spot_of r s u          the spot of the record r on the shelf s with used length u
use Rattle.std.specs.Prelude.{ℕ, cond, List, pos, eqb, length, take, Result, Ok, Err}
use Rattle.model.specs.declared.Refusal.{Refusal}
use Rattle.placing.specs.declared.Spot.{Spot}
use Rattle.placing.specs.declared.Spot.TheVariants as spot
use Rattle.model.specs.Refusals.{numbered}
use Rattle.model.specs.Shelf.{records_in, first_equal}
use Rattle.model.specs.Calls.{shelve_refusal}

unfoldable pub spot_of : List ℕ → List ℕ → ℕ → Result Spot Refusal
spot_of r shelf used =
    let rs = records_in (take used shelf) in
    let n = first_equal r rs in
    cond (eqb (shelve_refusal r shelf used) 0) (Ok (cond (eqb n (length rs)) (spot.New n) (spot.There n))) (Err (numbered (shelve_refusal r shelf used) (pos 0)))
