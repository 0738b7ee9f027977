-- Histories of a shelf (document 02, request (b)): shelving calls, one after another, refused ones among them.
--
--   Shelving              one shelving call as it happened: what it was handed beside the shelf, what it answered and left
--   used_by used c         the used length after the call c
--   History s u cs        the calls of the list did what shelving promises, each on the shelf and the used length that the one before left
--   shelf_left, used_left   what the last one left
--   storing u cs          the calls that stored their record
--   AllFit cs             each of their records is a fit plan's under the table of the call
--   HoldsPlans s cs       the shelf that a history from nothing leaves holds only records of fit plans
use Rattle.std.specs.Prelude.{ℕ, ◌≡◌, false, cond, List, [], ◌∷◌, map, eqb, take, Result}
use Rattle.model.specs.declared.Refusal.{Refusal}
use Rattle.model.specs.declared.Table.{Table}
use Rattle.model.specs.declared.Shelved.{Shelved}
use Rattle.model.specs.Map.{Plan}
use Rattle.model.specs.Shelf.{records_in, shelf_refused}
use Rattle.model.specs.Calls.{HasRecord, Stored, used_of_shelved}

pub record Shelving : Type 0 where
  pub table : Table
  pub bytes : List ℕ
  pub work : List ℕ
  pub answer : Result Shelved Refusal
  pub work_after : List ℕ
  pub shelf_after : List ℕ

abbrev pub used_by : ℕ → Shelving → ℕ
used_by used c = used_of_shelved used c.answer

abbrev pub History : List ℕ → ℕ → List Shelving → Type 0
History shelf used [] = Unit
History shelf used (c ∷ cs) =
    Stored c.table c.bytes c.work shelf used c.answer c.work_after c.shelf_after × History c.shelf_after (used_by used c) cs

unfoldable pub shelf_left : List ℕ → List Shelving → List ℕ
shelf_left shelf [] = shelf
shelf_left shelf (c ∷ cs) = shelf_left c.shelf_after cs

unfoldable pub used_left : ℕ → List Shelving → ℕ
used_left used [] = used
used_left used (c ∷ cs) = used_left (used_by used c) cs

-- a record that is stored takes bytes
unfoldable pub storing : ℕ → List Shelving → List Shelving
storing used [] = []
storing used (c ∷ cs) = let rest = storing (used_by used c) cs in cond (eqb (used_by used c) used) rest (c ∷ rest)

abbrev pub AllFit : List Shelving → Type 0
AllFit [] = Unit
AllFit (c ∷ cs) = ((p : Plan) × HasRecord c.table c.bytes p) × AllFit cs

-- "A shelf built from nothing by shelving then holds only records of fit plans."
pub record HoldsPlans (shelf : List ℕ) (cs : List Shelving) : Type 0 where
  pub sound : shelf_refused (shelf_left shelf cs) (used_left 0 cs) ≡ false
  pub records_are : records_in (take (used_left 0 cs) (shelf_left shelf cs)) ≡ map (λ (c : Shelving). c.bytes) (storing 0 cs)
  pub fit_plans : AllFit (storing 0 cs)
