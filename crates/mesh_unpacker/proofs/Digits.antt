-- Digits added to codewords one by one: those that have theirs and those that are left are those of the specification. Assumes nothing.
--
--   with_take             digits that no codeword wants do not count
--   digit_none, digit_one   a codeword below 3 has no digit, another has
--   Adding                i of n codewords from place a on have their digits, the first j of ds
--   adding_start, adding_on, adding_end   none has; one more has; all have
--   adding_below, adding_there   the next codeword is below 4, and if it is 3, there is a digit for it
use Prim.Native.Nat.{ℕ, zero, suc, ◌+◌, ◌-◌, ◌/◌, ◌≤◌, ◌<◌}
use native.Mathlib.Nat.{add-zero, sub-zero}
use native.Mathlib.Numerals.{add-one}
use native.Mathlib.Omega.{arith}
use mathlib.Core.Path.{◌≡◌, refl, sym, ap, ◌∙◌, subst}
use mathlib.Core.Bool.{true}
use mathlib.Core.List.{List, [], ◌∷◌, ◌++◌, append-nil, append_assoc}
use lib.ListN.{length, get_or, set, take, drop, length-append, length-set}
use lib.Seq.{drop-cons}
use borrow.Author.Tests.{lt-ltb, le-ltb}
use Rattle.model.specs.Numbers.{all_below}
use Rattle.model.specs.Mesh.{digit_of, type_digits}
use Rattle.model.proofs.Below.{below_head, below_tail}
use Rattle.packing.specs.Types.{with_digits}
use Rattle.work.specs.Area.{region}
use Rattle.work.proofs.Regions.{region_set_other, region_push}
use Rattle.mesh_unpacker.specs.Reading.{digit_on}
use Rattle.mesh_codewords.proofs.Codes.{digits_count}

pub with_take : (ss ds : List ℕ) → length (type_digits ss) ≤ length ds → with_digits ss (take (length (type_digits ss)) ds) ≡ with_digits ss ds
unfolding type_digits digit_of with_digits
with_take [] ds h = refl
with_take (zero ∷ ss) ds h = ap (λ (x : List ℕ). 0 ∷ x) (with_take ss ds h)
with_take (suc zero ∷ ss) ds h = ap (λ (x : List ℕ). 1 ∷ x) (with_take ss ds h)
with_take (suc (suc zero) ∷ ss) ds h = ap (λ (x : List ℕ). 2 ∷ x) (with_take ss ds h)
with_take (suc (suc (suc n)) ∷ ss) [] h = absurd (omega arith)
with_take (suc (suc (suc n)) ∷ ss) (d ∷ ds) h = ap (λ (x : List ℕ). suc (suc (suc d)) ∷ x) (with_take ss ds (omega arith))

module _ (t d : ℕ) where
  pub digit_none : t < 3 → digit_on t d ≡ t
  unfolding digit_on
  digit_none h = rw (lt-ltb t 3 h)

  pub digit_one : 3 ≤ t → digit_on t d ≡ 3 + d
  unfolding digit_on
  digit_one h = rw (le-ltb t 3 h)

-- the first codeword gets its digit
with_first : (t : ℕ) (ss ds : List ℕ) (j : ℕ) → t < 4 → (t ≡ 3 → j < length ds)
    → with_digits (t ∷ ss) (drop j ds) ≡ digit_on t (get_or ds j 0) ∷ with_digits ss (drop (j + t / 3) ds)
unfolding with_digits digit_on
with_first zero ss ds j h k = rw (add-zero j)
with_first (suc zero) ss ds j h k = rw (add-zero j)
with_first (suc (suc zero)) ss ds j h k = rw (add-zero j)
with_first (suc (suc (suc zero))) ss ds j h k = rw (drop-cons ds j 0 (k refl), add-one j) (ap (λ (x : ℕ). x ∷ with_digits ss (drop (suc j) ds)) (omega arith))
with_first (suc (suc (suc (suc n)))) ss ds j h k = absurd (omega arith)

-- the region from place i of n on, its first entry apart
region_first : (a n i : ℕ) (w : List ℕ) → i < n → a + n ≤ length w → region (a + i) (n - i) w ≡ get_or w (a + i) 0 ∷ region (a + (i + 1)) (n - (i + 1)) w
unfolding region
region_first a n i w h l =
    let one : n - i ≡ suc (n - (i + 1)) = omega arith in
    let next : a + (i + 1) ≡ suc (a + i) = omega arith in
    rw (one, next, drop-cons w (a + i) 0 (omega arith))

pub record Adding (ds : List ℕ) (n a : ℕ) (w₀ w : List ℕ) (j i : ℕ) : Type 0 where
  pub some : i ≤ n
  pub few : j + length (type_digits (region (a + i) (n - i) w)) ≤ length ds
  pub below : all_below 4 (region (a + i) (n - i) w) ≡ true
  pub left : region a i w ++ with_digits (region (a + i) (n - i) w) (drop j ds) ≡ with_digits (region a n w₀) ds
  pub kept : length w ≡ length w₀

module _ (ds : List ℕ) (n a : ℕ) (w₀ : List ℕ) (room : a + n ≤ length w₀) where
  pub adding_start : all_below 4 (region a n w₀) ≡ true → length (type_digits (region a n w₀)) ≤ length ds → Adding ds n a w₀ w₀ 0 0
  unfolding region
  adding_start b f = record {
    some = omega arith;
    few = rw (add-zero a, sub-zero n) (omega arith);
    below = rw (add-zero a, sub-zero n) b;
    left = rw (add-zero a, sub-zero n);
    kept = refl;
  }

  module _ (w : List ℕ) (j i : ℕ) (x : Adding ds n a w₀ w j i) where
    pub adding_end : n ≤ i → region a n w ≡ with_digits (region a n w₀) ds
    unfolding region with_digits
    adding_end h =
        let s = x.some in
        let all : n ≡ i = omega arith in
        let none : n - i ≡ 0 = omega arith in
        ap (λ (k : ℕ). region a k w) all ∙ sym (append-nil (region a i w))
        ∙ ap (λ (k : ℕ). region a i w ++ with_digits (region (a + i) k w) (drop j ds)) (sym none) ∙ x.left

    module _ (h : i < n) where
      abbrev t : ℕ
      t = get_or w (a + i) 0

      abbrev rest : List ℕ
      rest = region (a + (i + 1)) (n - (i + 1)) w

      first_apart : region (a + i) (n - i) w ≡ t ∷ rest
      first_apart = let k = x.kept in region_first a n i w h (omega arith)

      all_below_lem : all_below 4 (t ∷ rest) ≡ true
      all_below_lem = ap (all_below 4) (sym first_apart) ∙ x.below

      pub adding_below : t < 4
      adding_below = below_head 4 t rest all_below_lem

      enough : j + t / 3 + length (type_digits rest) ≤ length ds
      unfolding type_digits
      enough =
          let f : j + length (digit_of t ++ type_digits rest) ≤ length ds = subst (λ (r : List ℕ). j + length (type_digits r) ≤ length ds) first_apart x.few in
          let e = length-append (digit_of t) (type_digits rest) in
          let c = digits_count t adding_below in
          omega arith

      pub adding_there : t ≡ 3 → j < length ds
      adding_there e = let f = enough in omega arith

      pub adding_on : (v : ℕ) → v ≡ digit_on t (get_or ds j 0) → Adding ds n a w₀ (set w (a + i) v) (j + t / 3) (i + 1)
      adding_on v e =
          let k = x.kept in
          let w' = set w (a + i) v in
          let stored = region_push a i v w (omega arith) in
          let same : region (a + (i + 1)) (n - (i + 1)) w' ≡ rest = region_set_other (a + (i + 1)) (n - (i + 1)) w (a + i) v (λ l. absurd (omega arith)) in
          record {
            some = omega arith;
            few = subst (λ (r : List ℕ). j + t / 3 + length (type_digits r) ≤ length ds) (sym same) enough;
            below = ap (all_below 4) same ∙ below_tail 4 t rest all_below_lem;
            left =
                ap (λ (r : List ℕ). r ++ with_digits (region (a + (i + 1)) (n - (i + 1)) w') (drop (j + t / 3) ds)) stored
                ∙ ap (λ (r : List ℕ). (region a i w ++ (v ∷ [])) ++ with_digits r (drop (j + t / 3) ds)) same
                ∙ append_assoc (region a i w) (v ∷ []) (with_digits rest (drop (j + t / 3) ds))
                ∙ ap (λ (y : ℕ). region a i w ++ (y ∷ with_digits rest (drop (j + t / 3) ds))) e
                ∙ ap (λ (r : List ℕ). region a i w ++ r) (sym (with_first t rest ds j adding_below adding_there))
                ∙ ap (λ (r : List ℕ). region a i w ++ with_digits r (drop j ds)) (sym first_apart)
                ∙ x.left;
            kept = length-set w (a + i) v ∙ k;
          }
