-- Which part of a lent slice a returned part is (document 01: "Fetching returns the part of the lent shelf that is record n"). A reference's `ptr` is its
-- block and the byte of the block where it begins.
--
--   begins_at s at t       the part t begins at a place of the slice s
--   cut_place bs at        where the part begins that is the record at a place; at 0, and empty, if none that passes stands there
--   CutOut s at t         all that handing over the record at a place of s promises
--   fetched_place s u n    where record n begins; 0, for the empty part, if fetching is refused
--   FetchedPart           all that fetching promises, and which part of the shelf is returned
use Rattle.std.specs.Prelude.{ℕ, ◌+◌, ◌≡◌, cond, List, eqb, take, drop}
use Rattle.std.specs.Borrow.{Bor}
use Rattle.model.specs.Shelf.{passes, records_in}
use Rattle.model.specs.Calls.{fetch_refusal, Fetched}
use Rattle.model.specs.ShelfWalk.{first_record, record_at, place_of_record}

abbrev pub begins_at : Bor (List ℕ) → ℕ → Bor (List ℕ) → Type 0
begins_at s at t = t.ref_ptr ≡ (s.ref_ptr.0, s.ref_ptr.1 + at)

unfoldable pub cut_place : List ℕ → ℕ → ℕ
cut_place bs at = cond (passes (first_record (drop at bs))) at 0

pub record CutOut (s : Bor (List ℕ)) (at : ℕ) (t : Bor (List ℕ)) : Type 0 where
  pub bytes_are : t.now ≡ record_at s.now at
  pub begins : begins_at s (cut_place s.now at) t

unfoldable pub fetched_place : List ℕ → ℕ → ℕ → ℕ
fetched_place shelf used n = cond (eqb (fetch_refusal shelf used n) 0) (place_of_record (records_in (take used shelf)) n) 0

pub record FetchedPart (shelf : Bor (List ℕ)) (used n : ℕ) (part : Bor (List ℕ)) (number : ℕ) : Type 0 where
  pub settled : Fetched shelf.now used n part.now number
  pub begins : begins_at shelf (fetched_place shelf.now used n) part
