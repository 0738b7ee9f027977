-- Cutting bytes into records.
--
--   rest bs                   the bytes past the first record
--   cut_verdict, cut_records  bytes that begin with a record that passes: the rest decides, and the records are it and the rest's
--   cut_stops                 bytes that begin with no record that passes are not records end to end
--   end_head                  bytes end to end, not empty, begin with a record that passes
--   end_rest, end_records     the rest is records end to end; the records
--   end_nil, some_bytes       no bytes, no record; where there is a record there are bytes
--   pass_at                   each of records that all pass
use mathlib.Core.Path.{◌≡◌, refl, sym, ap, ◌∙◌}
use mathlib.Core.Bool.{Bool, true, false, false≢true}
use mathlib.Core.List.{List, [], ◌∷◌}
use Prim.Native.Nat.{ℕ, zero, suc, ◌-◌, ◌≤◌, ◌<◌}
use native.Mathlib.Nat.{not-suc-le-zero, le_of_suc-le-suc}
use native.Mathlib.Omega.{arith}
use lib.ListN.{length, get_or, drop, length-drop}
use Rattle.model.specs.Shelf.{word16, passes, cut_into, records_in, all_pass, end_to_end}
use Rattle.model.specs.ShelfWalk.{first_record}
use Rattle.model.proofs.Booleans.{and_left, and_right}
use Rattle.records.proofs.Stands.{head_whole}

abbrev pub rest : List ℕ → List ℕ
rest bs = drop (word16 bs 0) bs

-- how many records a cut may have does not matter, if it is as many as there are bytes
abbrev SameCut : ℕ → ℕ → List ℕ → Type 0
SameCut n m bs = (all_pass (cut_into n bs) ≡ all_pass (cut_into m bs)) × (all_pass (cut_into n bs) ≡ true → cut_into n bs ≡ cut_into m bs)

cut_nil : (n : ℕ) → cut_into n [] ≡ []
unfolding cut_into
cut_nil zero = refl
cut_nil (suc n) = refl

same_cut : (n m : ℕ) (bs : List ℕ) → length bs ≤ n → length bs ≤ m → SameCut n m bs
unfolding cut_into all_pass
same_cut zero m [] h k = (rw (cut_nil m), λ _. sym (cut_nil m))
same_cut zero m (b ∷ bs) h k = absurd (not-suc-le-zero h)
same_cut (suc n) m [] h k = (rw (cut_nil m), λ _. sym (cut_nil m))
same_cut (suc n) zero (b ∷ bs) h k = absurd (not-suc-le-zero k)
same_cut (suc n) (suc m) (b ∷ bs) h k = go (passes (first_record (b ∷ bs))) refl (same_cut n m (rest (b ∷ bs)))
  where
    go : (t : Bool) → passes (first_record (b ∷ bs)) ≡ t
        → (length (rest (b ∷ bs)) ≤ n → length (rest (b ∷ bs)) ≤ m → SameCut n m (rest (b ∷ bs)))
        → SameCut (suc n) (suc m) (b ∷ bs)
    go true e ih =
        let w = head_whole (b ∷ bs) e in
        let d = length-drop (word16 (b ∷ bs) 0) (b ∷ bs) in
        let s = ih (omega arith) (omega arith) in
        (rw (e, s.0), λ t. ap (λ (rs : List (List ℕ)). first_record (b ∷ bs) ∷ rs) (s.1 (and_right (passes (first_record (b ∷ bs))) _ t)))
    go false e ih = (rw e, λ t. absurd (false≢true (sym e ∙ and_left (passes (first_record (b ∷ bs))) (all_pass (cut_into n (rest (b ∷ bs)))) t)))

-- ---- one record and the rest

module _ (bs : List ℕ) (p : passes (first_record bs) ≡ true) where
  cut_one : (n : ℕ) → length bs ≤ suc n → cut_into (suc n) bs ≡ first_record bs ∷ cut_into n (rest bs)
  unfolding cut_into
  cut_one n h = go bs p
    where
      go : (bs : List ℕ) → passes (first_record bs) ≡ true → cut_into (suc n) bs ≡ first_record bs ∷ cut_into n (rest bs)
      go [] q = let w = head_whole [] q in absurd (omega arith)
      go (b ∷ bs) q = refl

  fewer : SameCut (length bs - 1) (length (rest bs)) (rest bs)
  fewer =
      let w = head_whole bs p in
      let d = length-drop (word16 bs 0) bs in
      same_cut (length bs - 1) (length (rest bs)) (rest bs) (omega arith) (omega arith)

  records_one : records_in bs ≡ first_record bs ∷ cut_into (length bs - 1) (rest bs)
  unfolding records_in
  records_one =
      let w = head_whole bs p in
      let e : length bs ≡ suc (length bs - 1) = omega arith in
      ap (λ (k : ℕ). cut_into k bs) e ∙ cut_one (length bs - 1) (omega arith)

  pub cut_verdict : end_to_end bs ≡ end_to_end (rest bs)
  unfolding end_to_end all_pass records_in
  cut_verdict = ap all_pass records_one ∙ rw (p, fewer.0)

  pub cut_records : end_to_end (rest bs) ≡ true → records_in bs ≡ first_record bs ∷ records_in (rest bs)
  unfolding end_to_end records_in
  cut_records t = records_one ∙ ap (λ (rs : List (List ℕ)). first_record bs ∷ rs) (fewer.1 (fewer.0 ∙ t))

pub cut_stops : (bs : List ℕ) → 0 < length bs → passes (first_record bs) ≡ false → end_to_end bs ≡ false
unfolding end_to_end records_in cut_into all_pass
cut_stops [] h p = absurd (not-suc-le-zero h)
cut_stops (b ∷ bs) h p = rw p

pub end_nil : records_in [] ≡ []
unfolding records_in cut_into
end_nil = refl

pub some_bytes : (bs : List ℕ) (k : ℕ) → k < length (records_in bs) → 0 < length bs
some_bytes [] k h = absurd (let e = ap length end_nil in omega arith)
some_bytes (b ∷ bs) k h = omega arith

pub pass_at : (rs : List (List ℕ)) (m : ℕ) → all_pass rs ≡ true → m < length rs → passes (get_or rs m []) ≡ true
unfolding all_pass
pass_at [] m t h = absurd (not-suc-le-zero h)
pass_at (r ∷ rs) zero t h = and_left _ (all_pass rs) t
pass_at (r ∷ rs) (suc m) t h = pass_at rs m (and_right (passes r) _ t) (le_of_suc-le-suc h)

-- ---- bytes that are records end to end

module _ (bs : List ℕ) (t : end_to_end bs ≡ true) (h : 0 < length bs) where
  pub end_head : passes (first_record bs) ≡ true
  end_head = go (passes (first_record bs)) refl
    where
      go : (b : Bool) → passes (first_record bs) ≡ b → b ≡ true
      go true e = refl
      go false e = absurd (false≢true (sym (cut_stops bs h e) ∙ t))

  pub end_rest : end_to_end (rest bs) ≡ true
  end_rest = sym (cut_verdict bs end_head) ∙ t

  pub end_records : records_in bs ≡ first_record bs ∷ records_in (rest bs)
  end_records = cut_records bs end_head end_rest
