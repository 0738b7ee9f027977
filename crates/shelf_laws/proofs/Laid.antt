-- Records laid end to end, and cut apart again.
--
--   laid rs               the records rs end to end
--   laid_back             bytes that are records end to end are their records laid end to end
--   cut_unique            records that pass, laid end to end, are cut into these records and no others
--   laid_end              they are records end to end
--   one_more              a record that passes, put behind bytes that are records end to end
use mathlib.Core.Path.{◌≡◌, sym, ap, ◌∙◌}
use mathlib.Core.Bool.{true}
use mathlib.Core.List.{List, [], ◌∷◌, ◌++◌, append_assoc, append-nil}
use Prim.Native.Nat.{ℕ, zero, suc, ◌≤◌}
use native.Mathlib.Nat.{not-suc-le-zero}
use native.Mathlib.Omega.{arith}
use lib.ListN.{length, take, drop, length-drop, take-append-drop, get_or-append}
use lib.Seq.{take-append_seam, drop-append_seam}
use Rattle.model.specs.Shelf.{word16, passes, records_in, all_pass, end_to_end}
use Rattle.model.specs.ShelfWalk.{first_record}
use Rattle.model.proofs.Booleans.{and_left, and_right}
use Rattle.model.proofs.Heads.{passes_long, passes_length}
use Rattle.records.proofs.Stands.{head_whole}
use Rattle.records.proofs.Cut.{rest, cut_verdict, cut_records, end_nil, end_head, end_rest, end_records}

unfoldable pub laid : List (List ℕ) → List ℕ
laid [] = []
laid (r ∷ rs) = r ++ laid rs

-- ---- bytes, cut and laid

-- by the number of bytes
laid_back_below : (n : ℕ) (bs : List ℕ) → length bs ≤ n → end_to_end bs ≡ true → laid (records_in bs) ≡ bs
unfolding laid
laid_back_below zero [] h t = ap laid end_nil
laid_back_below zero (b ∷ bs) h t = absurd (not-suc-le-zero h)
laid_back_below (suc n) [] h t = ap laid end_nil
laid_back_below (suc n) (b ∷ bs) h t =
    let p = end_head (b ∷ bs) t (omega arith) in
    let w = head_whole (b ∷ bs) p in
    let d = length-drop (word16 (b ∷ bs) 0) (b ∷ bs) in
    ap laid (end_records (b ∷ bs) t (omega arith))
    ∙ (ap (λ (x : List ℕ). first_record (b ∷ bs) ++ x) (laid_back_below n (rest (b ∷ bs)) (omega arith) (end_rest (b ∷ bs) t (omega arith)))
    ∙ take-append-drop (word16 (b ∷ bs) 0) (b ∷ bs))

pub laid_back : (bs : List ℕ) → end_to_end bs ≡ true → laid (records_in bs) ≡ bs
laid_back bs t = laid_back_below (length bs) bs (omega arith) t

-- ---- records, laid and cut

module _ (r x : List ℕ) (p : passes r ≡ true) where
  field_front : word16 (r ++ x) 0 ≡ length r
  unfolding word16
  field_front =
      let l = passes_long r p in
      rw (get_or-append r x 0 0 (omega arith), get_or-append r x 0 1 (omega arith)) (passes_length r p)

  front_head : first_record (r ++ x) ≡ r
  front_head = ap (λ (k : ℕ). take k (r ++ x)) field_front ∙ take-append_seam r x

  front_rest : rest (r ++ x) ≡ x
  front_rest = ap (λ (k : ℕ). drop k (r ++ x)) field_front ∙ drop-append_seam r x

  front_passes : passes (first_record (r ++ x)) ≡ true
  front_passes = ap passes front_head ∙ p

  front_end : end_to_end x ≡ true → end_to_end (r ++ x) ≡ true
  front_end t = cut_verdict (r ++ x) front_passes ∙ (ap end_to_end front_rest ∙ t)

  front_records : end_to_end x ≡ true → records_in (r ++ x) ≡ r ∷ records_in x
  front_records t = cut_records (r ++ x) front_passes (ap end_to_end front_rest ∙ t) ∙ rw (front_head, front_rest)

pub laid_end : (rs : List (List ℕ)) → all_pass rs ≡ true → end_to_end (laid rs) ≡ true
unfolding laid all_pass end_to_end
laid_end [] t = ap all_pass end_nil
laid_end (r ∷ rs) t = front_end r (laid rs) (and_left _ (all_pass rs) t) (laid_end rs (and_right (passes r) _ t))

pub cut_unique : (rs : List (List ℕ)) → all_pass rs ≡ true → records_in (laid rs) ≡ rs
unfolding laid all_pass
cut_unique [] t = end_nil
cut_unique (r ∷ rs) t =
    let q = and_right (passes r) (all_pass rs) t in
    front_records r (laid rs) (and_left _ (all_pass rs) t) (laid_end rs q) ∙ ap (λ (l : List (List ℕ)). r ∷ l) (cut_unique rs q)

-- ---- one record more

laid_snoc : (rs : List (List ℕ)) (r : List ℕ) → laid (rs ++ (r ∷ [])) ≡ laid rs ++ r
unfolding laid
laid_snoc [] r = append-nil r
laid_snoc (s ∷ rs) r = ap (λ (x : List ℕ). s ++ x) (laid_snoc rs r) ∙ sym (append_assoc s (laid rs) r)

pass_snoc : (rs : List (List ℕ)) (r : List ℕ) → all_pass rs ≡ true → passes r ≡ true → all_pass (rs ++ (r ∷ [])) ≡ true
unfolding all_pass
pass_snoc [] r t p = rw p
pass_snoc (s ∷ rs) r t p = rw (and_left (passes s) (all_pass rs) t, pass_snoc rs r (and_right (passes s) _ t) p)

module _ (bs r : List ℕ) (t : end_to_end bs ≡ true) (p : passes r ≡ true) where
  more : laid (records_in bs ++ (r ∷ [])) ≡ bs ++ r
  more = laid_snoc (records_in bs) r ∙ ap (λ (x : List ℕ). x ++ r) (laid_back bs t)

  all_more : all_pass (records_in bs ++ (r ∷ [])) ≡ true
  unfolding end_to_end
  all_more = pass_snoc (records_in bs) r t p

  pub one_more : (end_to_end (bs ++ r) ≡ true) × (records_in (bs ++ r) ≡ records_in bs ++ (r ∷ []))
  one_more = (sym (ap end_to_end more) ∙ laid_end _ all_more, sym (ap records_in more) ∙ cut_unique _ all_more)
