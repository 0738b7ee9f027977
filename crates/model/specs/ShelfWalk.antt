-- Walking a shelf (document 01): where its records stand, and what a walk yields.
--
--   first_record bs        the first bytes of bs, as many as their length field says
--   record_at bs at        the record that passes 1, 2, 3, 5 and stands at a place of bs; [] if none does
--   next_place bs at       the place past the record that stands at a place; the place itself if none does
--   place_of_record rs n    the place of record n where the records rs stand end to end
--   begin_place s u n      where a walk from record n begins; the used length, where no record is left, if that is refused
--   Begun                 all that the beginning of a walk promises
--   walked s u n          the records that a walk from record n yields; none if its beginning is refused
--   HandsOut bs at rs     the steps from a place hand out the records rs, one after another, then none
use Rattle.std.specs.Prelude.{ℕ, zero, suc, ◌+◌, ◌<◌, ◌≡◌, cond, List, [], ◌∷◌, eqb, length, take, drop}
use Rattle.model.specs.Shelf.{word16, passes, records_in}
use Rattle.model.specs.Calls.{fetch_refusal}

-- ---- a step

-- "length of the whole record (2 bytes)"
abbrev pub first_record : List ℕ → List ℕ
first_record bs = take (word16 bs 0) bs

-- "A step from a place where no record that passes 1, 2, 3 and 5 stands says so too."
unfoldable pub record_at : List ℕ → ℕ → List ℕ
record_at bs at = cond (passes (first_record (drop at bs))) (first_record (drop at bs)) []

unfoldable pub next_place : List ℕ → ℕ → ℕ
next_place bs at = at + length (record_at bs at)

-- ---- the beginning

-- "records end to end", "counting from 0"
unfoldable pub place_of_record : List (List ℕ) → ℕ → ℕ
place_of_record rs zero = 0
place_of_record [] (suc n) = 0
place_of_record (r ∷ rs) (suc n) = length r + place_of_record rs n

-- "Its beginning meets the refusals of fetching, so a walk from the number just past the last record is 15."
unfoldable pub begin_place : List ℕ → ℕ → ℕ → ℕ
begin_place shelf used n = cond (eqb (fetch_refusal shelf used n) 0) (place_of_record (records_in (take used shelf)) n) used

pub record Begun (shelf : List ℕ) (used n : ℕ) (place number : ℕ) : Type 0 where
  pub place_is : place ≡ begin_place shelf used n
  pub number_is : number ≡ fetch_refusal shelf used n

-- ---- "Walking a shelf yields its records one after another, from a given record number to the last, then says that none is left."

unfoldable pub walked : List ℕ → ℕ → ℕ → List (List ℕ)
walked shelf used n = cond (eqb (fetch_refusal shelf used n) 0) (drop n (records_in (take used shelf))) []

-- an empty part says that none is left, so that a record handed out is not empty
abbrev pub HandsOut : List ℕ → ℕ → List (List ℕ) → Type 0
HandsOut bs at [] = record_at bs at ≡ []
HandsOut bs at (r ∷ rs) = (record_at bs at ≡ r) × ((0 < length r) × HandsOut bs (next_place bs at) rs)
