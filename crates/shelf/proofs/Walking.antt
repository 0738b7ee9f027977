-- Walking and fetching at plain values: s is the shelf, u its used length, n a record's number.
--
--   place_record          at the place of record n stands record n
--   next_inside             the next place is in the bytes, or the walk stays
--   used_fine             where 14 does not concern the shelf: the used length, the used bytes
--   none_left             at the used length no record is left
--   fine_parts            where fetching is not refused: the used length, the used bytes, the number
--   first_record_lem          the record at a walk's beginning is the fetched one
--   begun_refused, begun_fine    the two ways that a walk begins
--   none_fetched          a refused beginning, at the used length, is a refused fetching, of the empty part
--   fetched_part          fetching, by the part at a beginning: its bytes, and which part of the shelf it is
--   next_is, whole_part   the next place by a record's length; the used part of a shelf that is shorter
use mathlib.Core.Path.{◌≡◌, refl, sym, ap, ◌∙◌}
use mathlib.Core.Logic.{◌⊎◌, inl, inr}
use mathlib.Core.Bool.{Bool, true, false, cond}
use mathlib.Core.List.{List, []}
use Prim.Native.Nat.{ℕ, zero, suc, ◌+◌, ◌≤◌, ◌<◌}
use native.Mathlib.Decide.{ℕ_discrete}
use native.Mathlib.Omega.{arith}
use lib.Dec.{eqb}
use lib.ListN.{length, get_or, take, drop, length-take}
use lib.Seq.{drop-drop, take_all}
use borrow.Author.Tests.{eq-eqb, ne_eqb, ltb-false, eqb-true, not-false}
use Rattle.model.specs.Shelf.{word16, passes, records_in, end_to_end, shelf_refused}
use Rattle.model.specs.Calls.{fetch_refusal, fetched, Fetched}
use Rattle.model.specs.ShelfWalk.{first_record, record_at, place_of_record, begin_place, next_place, Begun}
use Rattle.model.proofs.Booleans.{or_none}
use denote.Ref.{Bor}
use Rattle.model.specs.Parts.{cut_place, CutOut}
use Rattle.model.proofs.Heads.{passes_long}
use Rattle.records.proofs.Stands.{head_whole, record_is, record_short, stands, stands_length, stands_not}
use Rattle.records.proofs.Cut.{rest, some_bytes, pass_at, end_head, end_rest, end_records}
use Rattle.model.specs.Parts.{fetched_place, FetchedPart}
use Rattle.shelf.proofs.Refusals.{fetch_none}

record_drop : (bs : List ℕ) (l at : ℕ) → record_at bs (l + at) ≡ record_at (drop l bs) at
unfolding record_at
record_drop bs l at = ap (λ (r : List ℕ). cond (passes (first_record r)) (first_record r) []) (sym (drop-drop at l bs))

pub place_record : (n : ℕ) (bs : List ℕ) → end_to_end bs ≡ true → n < length (records_in bs)
    → record_at bs (place_of_record (records_in bs) n) ≡ get_or (records_in bs) n []
unfolding place_of_record
place_record zero bs t h =
    let b = some_bytes bs 0 h in
    record_is bs 0 (end_head bs t b) ∙ sym (ap (λ (rs : List (List ℕ)). get_or rs 0 []) (end_records bs t b))
place_record (suc n) bs t h =
    let b = some_bytes bs (suc n) h in
    let e = end_records bs t b in
    let l = ap length e in
    let w = head_whole bs (end_head bs t b) in
    ap (λ (rs : List (List ℕ)). record_at bs (place_of_record rs (suc n))) e
    ∙ (ap (λ (k : ℕ). record_at bs (k + place_of_record (records_in (rest bs)) n)) w.2
    ∙ (record_drop bs (word16 bs 0) (place_of_record (records_in (rest bs)) n)
    ∙ (place_record n (rest bs) (end_rest bs t b) (omega arith) ∙ sym (ap (λ (rs : List (List ℕ)). get_or rs (suc n) []) e))))

-- a record that passes stands there
place_stands : (n : ℕ) (bs : List ℕ) → end_to_end bs ≡ true → n < length (records_in bs)
    → passes (first_record (drop (place_of_record (records_in bs) n) bs)) ≡ true
unfolding end_to_end
place_stands n bs t h =
    let e = ap length (place_record n bs t h) in
    let l = passes_long _ (pass_at (records_in bs) n t h) in
    stands bs (place_of_record (records_in bs) n) (λ z. omega arith)

pub next_inside : (bs : List ℕ) (at : ℕ) → (length (record_at bs at) ≡ 0) ⊎ (at + length (record_at bs at) ≤ length bs)
next_inside bs at = go (ℕ_discrete (length (record_at bs at)) 0)
  where
    go : Dec (length (record_at bs at) ≡ 0) → (length (record_at bs at) ≡ 0) ⊎ (at + length (record_at bs at) ≤ length bs)
    go (yes e) = inl e
    go (no d) = inr (stands_length bs at (stands bs at d)).1

-- ---- beginning

pub used_fine : (s : List ℕ) (u : ℕ) → shelf_refused s u ≡ false → (u ≤ length s) × (end_to_end (take u s) ≡ true)
unfolding shelf_refused
used_fine s u e = let p = or_none _ _ e in (ltb-false _ _ p.0, not-false _ p.1)

-- at the used length no record is left
pub none_left : (s : List ℕ) (u : ℕ) → record_at (take u s) u ≡ []
none_left s u = let l = length-take u s in record_short (take u s) u (omega arith)

module _ (s : List ℕ) (u n : ℕ) where
  pub fine_parts : fetch_refusal s u n ≡ 0 → (u ≤ length s) × (end_to_end (take u s) ≡ true) × (n < length (records_in (take u s)))
  fine_parts e = let (fine, there) = fetch_none s u n e in let f = used_fine s u fine in (f.0, f.1, there)

  pub first_record_lem : record_at (take u s) (begin_place s u n) ≡ fetched s u n
  unfolding begin_place fetched
  first_record_lem = go (eqb (fetch_refusal s u n) 0) refl
    where
      go : (b : Bool) → eqb (fetch_refusal s u n) 0 ≡ b
          → record_at (take u s) (cond b (place_of_record (records_in (take u s)) n) u) ≡ cond b (get_or (records_in (take u s)) n []) []
      go true e = let f = fine_parts (eqb-true _ _ e) in place_record n (take u s) f.1 f.2
      go false e = none_left s u

  first_place : cut_place (take u s) (begin_place s u n) ≡ fetched_place s u n
  unfolding begin_place fetched_place cut_place
  first_place = go (eqb (fetch_refusal s u n) 0) refl
    where
      go : (b : Bool) → eqb (fetch_refusal s u n) 0 ≡ b
          → let at = cond b (place_of_record (records_in (take u s)) n) u in
          cond (passes (first_record (drop at (take u s)))) at 0 ≡ cond b (place_of_record (records_in (take u s)) n) 0
      go true e = let f = fine_parts (eqb-true _ _ e) in rw (place_stands n (take u s) f.1 f.2)
      go false e = rw (stands_not (take u s) u (ap length (none_left s u)))

  module _ (x : ℕ) (x_is : x ≡ fetch_refusal s u n) where
    pub begun_refused : (x ≡ 0 → ⊥) → Begun s u n u x
    unfolding begin_place
    begun_refused d = record { place_is = rw (ne_eqb (fetch_refusal s u n) 0 (λ e. d (x_is ∙ e))); number_is = x_is }

    pub begun_parts : x ≡ 0 → (u ≤ length s) × (end_to_end (take u s) ≡ true) × (n < length (records_in (take u s)))
    begun_parts e = fine_parts (sym x_is ∙ e)

    pub begun_fine : x ≡ 0 → (p : ℕ) → p ≡ place_of_record (records_in (take u s)) n → Begun s u n p 0
    unfolding begin_place
    begun_fine e p p-is =
        let z = sym x_is ∙ e in
        record {
          place_is = p-is ∙ rw (eq-eqb (fetch_refusal s u n) 0 z);
          number_is = sym z;
        }

  fetched_there : (at x : ℕ) (bs part : List ℕ) → Begun s u n at x → bs ≡ take u s → part ≡ record_at bs at → Fetched s u n part x
  fetched_there at x bs part b e p =
      record {
        part_is = p ∙ (ap (λ (r : List ℕ). record_at r at) e ∙ (ap (record_at (take u s)) b.place_is ∙ first_record_lem));
        number_is = b.number_is;
      }

  -- refused, at the used length, it is the empty part
  pub none_fetched : (x : ℕ) → Begun s u n u x → Fetched s u n [] x
  none_fetched x b = fetched_there u x (take u s) [] b refl (sym (none_left s u))

-- t is the used part of the shelf s, and r the part of t that is handed over
pub fetched_part : (s : Bor (List ℕ)) (u n at x : ℕ) (t r : Bor (List ℕ)) → Begun s.now u n at x
    → (t.now ≡ take u s.now) × (t.ref_ptr ≡ s.ref_ptr) → CutOut t at r → FetchedPart s u n r x
fetched_part s u n at x t r b e c =
    let place =
    ap (λ (bs : List ℕ). cut_place bs at) e.0
    ∙ (ap (cut_place (take u s.now)) b.place_is ∙ first_place s.now u n)
    in
    record {
      settled = fetched_there s.now u n at x t.now r.now b e.0 c.bytes_are;
      begins =
          c.begins
          ∙ (ap (λ (p : ℕ × ℕ). (p.0, p.1 + cut_place t.now at)) e.1 ∙ ap (λ (k : ℕ). (s.ref_ptr.0, s.ref_ptr.1 + k)) place);
    }

pub next_is : (bs : List ℕ) (at l : ℕ) → l ≡ length (record_at bs at) → at + l ≡ next_place bs at
unfolding next_place
next_is bs at l e = ap (λ (k : ℕ). at + k) e

-- the whole shelf, where the used length exceeds it
pub whole_part : (s : List ℕ) (u : ℕ) → length s < u → s ≡ take u s
whole_part s u h = sym (take_all u s (omega arith))
