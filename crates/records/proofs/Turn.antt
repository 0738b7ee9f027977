-- One turn of each loop over the heads, at plain values. `at` is the place that the loop has come to.
--
--   rest_here, broken_here         the bytes past the record at a place; where none stands
--   plus n x                       a count, n records on
--   count_begins, count_turn, count_stops, count_ends    counting
--   some_here                      bytes stand where a record does
--   room, next_fits, next_end      the record at a place of bytes that are records end to end, and what follows it
--   place_turn, place_fewer, place_ends    going to the place of a record
use mathlib.Core.Path.{◌≡◌, refl, sym, ap, ◌∙◌}
use mathlib.Core.Bool.{Bool, true, false, cond}
use mathlib.Core.List.{List, ◌∷◌}
use Prim.Native.Nat.{ℕ, suc, ◌+◌, ◌≤◌, ◌<◌}
use native.Mathlib.Nat.{zero-add}
use native.Mathlib.Omega.{arith}
use lib.ListN.{length, take, drop, length-drop}
use lib.Seq.{drop-drop, drop-length, length-take-le}
use Rattle.std.specs.Prelude.{Option, Some, None}
use Rattle.model.specs.Shelf.{word16, passes, all_pass, records_in, end_to_end}
use Rattle.model.specs.ShelfWalk.{first_record, record_at, place_of_record}
use Rattle.records.specs.Count.{count_of}
use Rattle.records.proofs.Stands.{head_whole, field_at, stands_length, passes_here, none_here}
use Rattle.records.proofs.Cut.{rest, cut_verdict, cut_records, cut_stops, end_nil, some_bytes, end_head, end_rest, end_records}

-- ---- the bytes past the record at a place are the rest of those from that place on

rest_drop : (bs : List ℕ) (at l : ℕ) → word16 (drop at bs) 0 ≡ l → rest (drop at bs) ≡ drop (at + l) bs
rest_drop bs at l e = drop-drop (word16 (drop at bs) 0) at bs ∙ ap (λ (k : ℕ). drop (at + k) bs) e

module _ (bs : List ℕ) (at l : ℕ) (l-is : l ≡ length (record_at bs at)) where
  pub rest_here : (l ≡ 0 → ⊥) → rest (drop at bs) ≡ drop (at + l) bs
  rest_here d = rest_drop bs at l (sym (l-is ∙ (stands_length bs at (passes_here bs at l l-is d)).2))

  pub broken_here : l ≡ 0 → at < length bs → end_to_end (drop at bs) ≡ false
  broken_here e h = let d = length-drop at bs in cut_stops (drop at bs) (omega arith) (none_here bs at l l-is e)

-- ---- counting

abbrev pub plus : ℕ → Option ℕ → Option ℕ
plus n (Some k) = Some (n + k)
plus n None = None

pub count_begins : (bs : List ℕ) → plus 0 (count_of bs) ≡ count_of bs
count_begins bs = go (count_of bs)
  where
    go : (x : Option ℕ) → plus 0 x ≡ x
    go (Some k) = ap Some (zero-add k)
    go None = refl

count_one : (bs : List ℕ) (n : ℕ) → passes (first_record bs) ≡ true → plus n (count_of bs) ≡ plus (n + 1) (count_of (rest bs))
unfolding count_of
count_one bs n p = rw (cut_verdict bs p) (go (end_to_end (rest bs)) refl)
  where
    go : (b : Bool) → end_to_end (rest bs) ≡ b
        → plus n (cond b (Some (length (records_in bs))) None) ≡ plus (n + 1) (cond b (Some (length (records_in (rest bs)))) None)
    go true e = let l = ap length (cut_records bs p e) in ap Some (omega arith)
    go false e = refl

module _ (bs : List ℕ) (at n l : ℕ) (l-is : l ≡ length (record_at bs at)) where
  pub count_turn : (l ≡ 0 → ⊥) → plus n (count_of (drop at bs)) ≡ plus (n + 1) (count_of (drop (at + l) bs))
  count_turn d =
      count_one (drop at bs) n (passes_here bs at l l-is d) ∙ ap (λ (r : List ℕ). plus (n + 1) (count_of r)) (rest_here bs at l l-is d)

  pub count_stops : l ≡ 0 → at < length bs → plus n (count_of (drop at bs)) ≡ None
  unfolding count_of
  count_stops e h = rw (broken_here bs at l l-is e h)

pub count_ends : (bs : List ℕ) (at n : ℕ) → at ≡ length bs → plus n (count_of (drop at bs)) ≡ Some n
unfolding count_of end_to_end all_pass
count_ends bs at n e = rw (e, drop-length bs, end_nil) (ap Some (omega arith))

place_cons : (r : List ℕ) (rs : List (List ℕ)) (k j : ℕ) → k ≡ suc j → place_of_record (r ∷ rs) k ≡ length r + place_of_record rs j
unfolding place_of_record
place_cons r rs k j e = rw e refl

-- ---- going from record to record, where bytes are known to be records end to end

pub some_here : (bs : List ℕ) (at k : ℕ) → k < length (records_in (drop at bs)) → at < length bs
some_here bs at k h = let b = some_bytes (drop at bs) k h in let d = length-drop at bs in omega arith

module _ (bs : List ℕ) (at : ℕ) (t : end_to_end (drop at bs) ≡ true) (h : at < length bs) where
  head_passes : passes (first_record (drop at bs)) ≡ true
  head_passes = let d = length-drop at bs in end_head (drop at bs) t (omega arith)

  pub room : at + 6 ≤ length bs
  room = let w = head_whole (drop at bs) head_passes in let d = length-drop at bs in omega arith

  module _ (l : ℕ) (l-is : l ≡ word16 bs at) where
    field_is : word16 (drop at bs) 0 ≡ l
    field_is = field_at bs at ∙ sym l-is

    pub next_fits : (6 ≤ l) × (at + l ≤ length bs)
    next_fits = let w = head_whole (drop at bs) head_passes in let d = length-drop at bs in let f = field_is in (omega arith, omega arith)

    next_rest : rest (drop at bs) ≡ drop (at + l) bs
    next_rest = rest_drop bs at l field_is

    pub next_end : end_to_end (drop (at + l) bs) ≡ true
    next_end = let d = length-drop at bs in sym (ap end_to_end next_rest) ∙ end_rest (drop at bs) t (omega arith)

    next_records : records_in (drop at bs) ≡ take l (drop at bs) ∷ records_in (drop (at + l) bs)
    next_records = let d = length-drop at bs in end_records (drop at bs) t (omega arith) ∙ rw (next_rest, field_is)

    -- ---- the place of a record

    length_here : length (take l (drop at bs)) ≡ l
    length_here = let d = length-drop at bs in let f = next_fits in length-take-le l (drop at bs) (omega arith)

    module _ (k j : ℕ) (next : k ≡ suc j) where
      pub place_turn : at + place_of_record (records_in (drop at bs)) k ≡ at + l + place_of_record (records_in (drop (at + l) bs)) j
      place_turn =
          let e = ap (λ (rs : List (List ℕ)). place_of_record rs k) next_records ∙ place_cons (take l (drop at bs)) (records_in (drop (at + l) bs)) k j next in
          let f = length_here in
          omega arith

      pub place_fewer : k < length (records_in (drop at bs)) → j < length (records_in (drop (at + l) bs))
      place_fewer b = let e = ap length next_records in omega arith

pub place_ends : (rs : List (List ℕ)) (at k : ℕ) → k ≡ 0 → at + place_of_record rs k ≡ at
unfolding place_of_record
place_ends rs at k e = rw e (omega arith)
