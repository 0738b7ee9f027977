-- Heads of records, and a shelf: records end to end.
--
--   word16 bs i           the little-endian 16-bit field at place i
--   kind_of r, edges_of r   the kind and m that the bytes r name
--   head_refusals r        the refusals 1, 2, 3, 5 of the bytes r; head_refusal, the first that concerns them, 0 if none does
--   passes r              r passes 1, 2, 3 and 5
--   records_in bs          the bytes cut into records by their length fields; cut_into, at most so many
--   all_pass rs            each of them passes
--   end_to_end bs           the bytes are records end to end that each pass
--   same r s              equal bytes
--   first_equal r rs       the number of the first record equal to r; how many there are if none is
--   met r rs              the records that a search for r meets: up to the first equal one, that one included; all if none is equal
--   as_long n rs           how many of the records have n bytes
--   compared r rs         of how many records a search for r compares more than the length
--   shelf_refused s u      refusal 14 concerns the shelf s with used length u
use Rattle.std.specs.Prelude.{ℕ, zero, suc, ◌+◌, ◌*◌, Bool, true, false, not, ◌&&◌, ◌||◌, cond, List, [], ◌∷◌, eqb, ltb, length, get_or, take, drop}
use Rattle.model.specs.Numbers.{tick, Check, first_refusal, refuse}
use Rattle.model.specs.Map.{is_kind, edge_count_fits}
use Rattle.model.specs.Record.{length_varies, record_length}

-- "All fields are little-endian"
unfoldable pub word16 : List ℕ → ℕ → ℕ
word16 bs i = get_or bs i 0 + 256 * get_or bs (suc i) 0

abbrev pub kind_of : List ℕ → ℕ
kind_of r = word16 r 2

abbrev pub edges_of : List ℕ → ℕ
edges_of r = word16 r 4

-- 1. "The record has fewer than 6 bytes, or its length field isn't the number of bytes lent." 2. "The kind is not 1 or 2", by document 02 (c) nor 4, by (e) nor 101h, 102h or 104h, by (f) nor 3.
-- 3. "in a record, m is 0 or above 4,096". 5. "The length is not the one for this kind and m"; of kind 3, document 02 (f): "5 isn't given".
unfoldable pub head_refusals : List ℕ → List Check
head_refusals r =
    refuse 1 (ltb (length r) 6 || not (eqb (word16 r 0) (length r)))
    ∷ refuse 2 (not (is_kind (kind_of r)))
    ∷ refuse 3 (not (edge_count_fits (edges_of r)))
    ∷ refuse 5 (not (length_varies (kind_of r)) && not (eqb (length r) (record_length (kind_of r) (edges_of r))))
    ∷ []

unfoldable pub head_refusal : List ℕ → ℕ
head_refusal r = first_refusal (head_refusals r)

unfoldable pub passes : List ℕ → Bool
passes r = eqb (head_refusal r) 0

-- ---- "the used bytes are records end to end"

-- at most n records
unfoldable pub cut_into : ℕ → List ℕ → List (List ℕ)
cut_into zero bs = []
cut_into (suc n) [] = []
cut_into (suc n) (b ∷ bs) = let l = word16 (b ∷ bs) 0 in take l (b ∷ bs) ∷ cut_into n (drop l (b ∷ bs))

unfoldable pub records_in : List ℕ → List (List ℕ)
records_in bs = cut_into (length bs) bs

unfoldable pub all_pass : List (List ℕ) → Bool
all_pass [] = true
all_pass (r ∷ rs) = passes r && all_pass rs

unfoldable pub end_to_end : List ℕ → Bool
end_to_end bs = all_pass (records_in bs)

unfoldable pub same : List ℕ → List ℕ → Bool
same [] [] = true
same [] (y ∷ ys) = false
same (x ∷ xs) [] = false
same (x ∷ xs) (y ∷ ys) = eqb x y && same xs ys

unfoldable pub first_equal : List ℕ → List (List ℕ) → ℕ
first_equal r [] = 0
first_equal r (s ∷ ss) = let rest = suc (first_equal r ss) in cond (same r s) 0 rest

-- Document 02 (g): "The search counts the records of which it compares more than the length; these are proved to be as many as those it meets of the new one's
-- length, an equal one included."
unfoldable pub met : List ℕ → List (List ℕ) → List (List ℕ)
met r rs = take (suc (first_equal r rs)) rs

unfoldable pub as_long : ℕ → List (List ℕ) → ℕ
as_long n [] = 0
as_long n (r ∷ rs) = tick (eqb (length r) n) (as_long n rs)

unfoldable pub compared : List ℕ → List (List ℕ) → ℕ
compared r rs = as_long (length r) (met r rs)

-- 14. "The used length exceeds the shelf, or the used bytes are not records end to end that each pass 1, 2, 3 and 5."
unfoldable pub shelf_refused : List ℕ → ℕ → Bool
shelf_refused shelf used = ltb (length shelf) used || not (end_to_end (take used shelf))
