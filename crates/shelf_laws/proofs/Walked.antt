-- Walking from record n yields what fetching n, n + 1, .. gives, then says that none is left.
--
--   place_after bs at k    the place of a walk after k steps
--   walk_yields           after k steps the record at that place is the one that fetching n + k gives
--   fetched_some          a fetched record is not empty: fewer than 6 bytes at a place say that no record is left
--   fetched_none          past the last record nothing is fetched
--   walk_hands_out        the steps from the beginning at n hand out the records that a walk from n yields, one after another, then none
--   hands_out_one         and no other list
use mathlib.Core.Path.{◌≡◌, refl, sym, ap, ap₂, subst, ◌∙◌}
use mathlib.Core.Bool.{Bool, true, false, not, cond}
use mathlib.Core.List.{List, [], ◌∷◌}
use Prim.Native.Nat.{ℕ, zero, suc, ◌+◌, ◌≤◌, ◌<◌}
use native.Mathlib.Nat.{not-suc-le-zero, le_of_suc-le-suc, lt_of_not-le, add-zero}
use native.Mathlib.Decide.{dec_le}
use native.Mathlib.Omega.{arith}
use lib.Dec.{eqb, ltb}
use lib.ListN.{length, get_or, take, drop, length-append, get_or-eq_default, drop_of_length-le}
use lib.Seq.{length-take-le, drop-cons}
use borrow.Author.Tests.{le-ltb, eq-eqb}
use Rattle.model.specs.Numbers.{first_refusal}
use Rattle.model.specs.Shelf.{records_in, end_to_end, shelf_refused}
use Rattle.model.specs.Calls.{fetch_refusal, fetched}
use Rattle.model.specs.ShelfWalk.{record_at, next_place, place_of_record, begin_place, walked, HandsOut}
use Rattle.model.proofs.Heads.{passes_long}
use Rattle.records.proofs.Stands.{record_short}
use Rattle.records.proofs.Cut.{pass_at}
use Rattle.shelf.proofs.Walking.{place_record, none_left, used_fine, fine_parts}
use Rattle.shelf_laws.proofs.Laid.{laid, laid_back}
use Rattle.shelf_laws.proofs.Shelved.{records, fetch_refusal_zero, fetched_record}

-- ---- places

place_suc : (rs : List (List ℕ)) (m : ℕ) → place_of_record rs (suc m) ≡ place_of_record rs m + length (get_or rs m [])
unfolding place_of_record
place_suc [] zero = omega arith
place_suc [] (suc m) = omega arith
place_suc (r ∷ rs) zero = omega arith
place_suc (r ∷ rs) (suc m) = let ih = place_suc rs m in omega arith

place_past : (rs : List (List ℕ)) (m : ℕ) → length rs ≤ m → place_of_record rs m ≡ length (laid rs)
unfolding place_of_record laid
place_past [] zero h = refl
place_past [] (suc m) h = refl
place_past (r ∷ rs) zero h = absurd (not-suc-le-zero h)
place_past (r ∷ rs) (suc m) h = let ih = place_past rs m (le_of_suc-le-suc h) in let l = length-append r (laid rs) in omega arith

module _ (bs : List ℕ) (t : end_to_end bs ≡ true) where
  past_end : (m : ℕ) → length (records_in bs) ≤ m → place_of_record (records_in bs) m ≡ length bs
  past_end m h = place_past (records_in bs) m h ∙ ap length (laid_back bs t)

  record_at_lem : (m : ℕ) → record_at bs (place_of_record (records_in bs) m) ≡ get_or (records_in bs) m []
  record_at_lem m = go (dec_le (length (records_in bs)) m)
    where
      go : Dec (length (records_in bs) ≤ m) → record_at bs (place_of_record (records_in bs) m) ≡ get_or (records_in bs) m []
      go (yes h) = let e = past_end m h in record_short bs (place_of_record (records_in bs) m) (omega arith) ∙ sym (get_or-eq_default (records_in bs) [] h)
      go (no h) = place_record m bs t (lt_of_not-le h)

  next_at : (m : ℕ) → next_place bs (place_of_record (records_in bs) m) ≡ place_of_record (records_in bs) (suc m)
  unfolding next_place
  next_at m = ap (λ (r : List ℕ). place_of_record (records_in bs) m + length r) (record_at_lem m) ∙ sym (place_suc (records_in bs) m)

unfoldable pub place_after : List ℕ → ℕ → ℕ → ℕ
place_after bs at zero = at
place_after bs at (suc k) = place_after bs (next_place bs at) k

after : (bs : List ℕ) → end_to_end bs ≡ true → (k n : ℕ) → place_after bs (place_of_record (records_in bs) n) k ≡ place_of_record (records_in bs) (n + k)
unfolding place_after
after bs t zero n = ap (place_of_record (records_in bs)) (sym (add-zero n))
after bs t (suc k) n =
    let e : suc n + k ≡ n + suc k = omega arith in
    ap (λ (p : ℕ). place_after bs p k) (next_at bs t n) ∙ (after bs t k (suc n) ∙ ap (place_of_record (records_in bs)) e)

stays : (bs : List ℕ) (at : ℕ) → record_at bs at ≡ [] → (k : ℕ) → place_after bs at k ≡ at
unfolding place_after next_place
stays bs at e zero = refl
stays bs at e (suc k) =
    let z = ap length e in
    let p : next_place bs at ≡ at = ap (λ (l : ℕ). at + l) z ∙ add-zero at in
    ap (λ (p : ℕ). place_after bs p k) p ∙ stays bs at e k

-- ---- what is fetched

pub fetched_none : (s : List ℕ) (u m : ℕ) → length (records s u) ≤ m → fetched s u m ≡ []
unfolding fetched fetch_refusal first_refusal
fetched_none s u m h = go (shelf_refused s u)
  where
    go : (b : Bool) → cond (eqb (cond b 14 (cond (not (ltb m (length (records s u)))) 15 0)) 0) (get_or (records s u) m []) [] ≡ []
    go true = refl
    go false = rw (le-ltb _ _ h)

module _ (s : List ℕ) (u : ℕ) where
  module _ (e : shelf_refused s u ≡ false) where
    fetched_any : (m : ℕ) → fetched s u m ≡ get_or (records s u) m []
    fetched_any m = go (dec_le (length (records s u)) m)
      where
        go : Dec (length (records s u) ≤ m) → fetched s u m ≡ get_or (records s u) m []
        go (yes h) = fetched_none s u m h ∙ sym (get_or-eq_default (records s u) [] h)
        go (no h) = fetched_record s u m e (lt_of_not-le h)

    begins : (n : ℕ) → begin_place s u n ≡ place_of_record (records s u) n
    unfolding begin_place fetch_refusal first_refusal
    begins n = go (dec_le (length (records s u)) n)
      where
        go : Dec (length (records s u) ≤ n) → begin_place s u n ≡ place_of_record (records s u) n
        go (yes h) =
            let f = used_fine s u e in
            rw (e, le-ltb n (length (records s u)) h) (sym (past_end (take u s) f.1 n h ∙ length-take-le u s f.0))
        go (no h) = rw (eq-eqb (fetch_refusal s u n) 0 (fetch_refusal_zero s u n e (lt_of_not-le h)))

  module _ (e : shelf_refused s u ≡ true) where
    broken_none : (m : ℕ) → fetched s u m ≡ []
    unfolding fetched fetch_refusal first_refusal
    broken_none m = rw e

    broken_begins : (n : ℕ) → begin_place s u n ≡ u
    unfolding begin_place fetch_refusal first_refusal
    broken_begins n = rw e

  -- the record after k steps from the beginning at n is the one that fetching n + k gives; where that is refused, none
  pub walk_yields : (n k : ℕ) → record_at (take u s) (place_after (take u s) (begin_place s u n) k) ≡ fetched s u (n + k)
  walk_yields n k = go (shelf_refused s u) refl
    where
      go : (b : Bool) → shelf_refused s u ≡ b → record_at (take u s) (place_after (take u s) (begin_place s u n) k) ≡ fetched s u (n + k)
      go true e =
          ap (λ (p : ℕ). record_at (take u s) (place_after (take u s) p k)) (broken_begins e n)
          ∙ (ap (record_at (take u s)) (stays (take u s) u (none_left s u) k) ∙ (none_left s u ∙ sym (broken_none e (n + k))))
      go false e =
          let t = (used_fine s u e).1 in
          ap (λ (p : ℕ). record_at (take u s) (place_after (take u s) p k)) (begins e n)
          ∙ (ap (record_at (take u s)) (after (take u s) t k n) ∙ (record_at_lem (take u s) t (n + k) ∙ sym (fetched_any e (n + k))))

-- ---- a record that is fetched is not empty

pub fetched_some : (s : List ℕ) (u m : ℕ) → fetch_refusal s u m ≡ 0 → 6 ≤ length (fetched s u m)
unfolding fetched end_to_end
fetched_some s u m z =
    let f = fine_parts s u m z in
    rw (eq-eqb (fetch_refusal s u m) 0 z) (passes_long _ (pass_at (records s u) m f.1 f.2))

-- ---- the whole walk

module _ (bs : List ℕ) (t : end_to_end bs ≡ true) where
  abbrev Rest : ℕ → Type 0
  Rest n = HandsOut bs (place_of_record (records_in bs) n) (drop n (records_in bs))

  rest_none : (n : ℕ) → length (records_in bs) ≤ n → Rest n
  rest_none n h =
      subst (HandsOut bs (place_of_record (records_in bs) n)) (sym (drop_of_length-le (records_in bs) h))
      (record_at_lem bs t n ∙ get_or-eq_default (records_in bs) [] h)

  rest_more : (n : ℕ) → n < length (records_in bs) → Rest (suc n) → Rest n
  unfolding end_to_end
  rest_more n h rest =
      let long = passes_long _ (pass_at (records_in bs) n t h) in
      subst (HandsOut bs (place_of_record (records_in bs) n)) (sym (drop-cons (records_in bs) n [] h))
      (record_at_lem bs t n, (omega arith, subst (λ (p : ℕ). HandsOut bs p (drop (suc n) (records_in bs))) (sym (next_at bs t n)) rest))

  -- by the number of records that are left
  rest_from : (k n : ℕ) → length (records_in bs) ≤ n + k → Rest n
  rest_from zero n h = rest_none n (omega arith)
  rest_from (suc k) n h = go (dec_le (length (records_in bs)) n) (λ l. rest_from k (suc n) (omega arith))
    where
      go : Dec (length (records_in bs) ≤ n) → (n < length (records_in bs) → Rest (suc n)) → Rest n
      go (yes l) more = rest_none n l
      go (no l) more = rest_more n (lt_of_not-le l) (more (lt_of_not-le l))

walked_rest : (s : List ℕ) (u n : ℕ) → shelf_refused s u ≡ false → walked s u n ≡ drop n (records s u)
unfolding walked fetch_refusal first_refusal
walked_rest s u n e = go (dec_le (length (records s u)) n)
  where
    go : Dec (length (records s u) ≤ n) → walked s u n ≡ drop n (records s u)
    go (yes h) = rw (e, le-ltb n (length (records s u)) h) (sym (drop_of_length-le (records s u) h))
    go (no h) = rw (eq-eqb (fetch_refusal s u n) 0 (fetch_refusal_zero s u n e (lt_of_not-le h)))

walked_broken : (s : List ℕ) (u n : ℕ) → shelf_refused s u ≡ true → walked s u n ≡ []
unfolding walked fetch_refusal first_refusal
walked_broken s u n e = rw e

-- from its beginning a walk hands out the records that it yields, one after another, then none
pub walk_hands_out : (s : List ℕ) (u n : ℕ) → HandsOut (take u s) (begin_place s u n) (walked s u n)
walk_hands_out s u n = go (shelf_refused s u) refl
  where
    go : (b : Bool) → shelf_refused s u ≡ b → HandsOut (take u s) (begin_place s u n) (walked s u n)
    go true e =
        subst (HandsOut (take u s) (begin_place s u n)) (sym (walked_broken s u n e))
        (ap (record_at (take u s)) (broken_begins s u e n) ∙ none_left s u)
    go false e =
        subst (HandsOut (take u s) (begin_place s u n)) (sym (walked_rest s u n e))
        (subst (λ (p : ℕ). HandsOut (take u s) p (drop n (records s u))) (sym (begins s u e n))
        (rest_from (take u s) (used_fine s u e).1 (length (records s u)) n (omega arith)))

-- and no other list
pub hands_out_one : (bs : List ℕ) (rs ss : List (List ℕ)) (at : ℕ) → HandsOut bs at rs → HandsOut bs at ss → rs ≡ ss
hands_out_one bs [] [] at h g = refl
hands_out_one bs [] (s ∷ ss) at h (f, (l, g)) = let z = ap length (sym f ∙ h) in let x : ⊥ = omega arith in absurd x
hands_out_one bs (r ∷ rs) [] at (e, (l, h)) g = let z = ap length (sym e ∙ g) in let x : ⊥ = omega arith in absurd x
hands_out_one bs (r ∷ rs) (s ∷ ss) at (e, (l, h)) (f, (m, g)) =
    ap₂ (λ (x : List ℕ) (xs : List (List ℕ)). x ∷ xs) (sym e ∙ f) (hands_out_one bs rs ss (next_place bs at) h g)
