-- Where no refusal of the shelf holds: r is the record, s the shelf, u its used length.
--
--   shelve_none           where 14 and 16 do not hold: the shelf is fine, and has room for a new record
use mathlib.Core.Path.{◌≡◌, refl}
use mathlib.Core.Bool.{true, false}
use mathlib.Core.List.{List}
use Prim.Native.Nat.{ℕ, ◌-◌, ◌≤◌}
use lib.Dec.{eqb}
use lib.ListN.{length, take}
use borrow.Author.Tests.{ltb-false}
use Rattle.model.specs.Shelf.{records_in, first_equal, shelf_refused}
use Rattle.model.specs.Calls.{shelve_refusal}
use Rattle.model.proofs.Refusals.{none_holds}

pub shelve_none : (r s : List ℕ) (u : ℕ) → shelve_refusal r s u ≡ 0 → let rs = records_in (take u s) in
    (shelf_refused s u ≡ false) × (eqb (first_equal r rs) (length rs) ≡ true → length r ≤ length s - u)
unfolding shelve_refusal
shelve_none r s u e =
    let no = none_holds _ refl e in
    (no 14, λ new. ltb-false (length s - u) (length r) (rw new at (no 16)))
