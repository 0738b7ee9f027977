-- Lists by their entries: the tests of the definitions, as facts on the places of a list.
--
--   below_all, all_below_lem      every entry is below n
--   elem_at, at_elem          x is an entry: it stands at some place
--   Different xs              no two places have the same entry
--   distinct_at, at_distinct  the test for it
--   permutation_below, permutation_inj   the entries of a permutation are below its length, and all different
--   permutation_of            a list with such entries is a permutation
--   position_bound            where x stands in a list, position is such a place
--   position_le, position_found, position_lacks   below the length it is such a place; it is the length where x is no entry
--   position_entry            position is the inverse of a permutation
use mathlib.Core.Path.{◌≡◌, refl, sym, ap, ◌∙◌}
use mathlib.Core.Bool.{Bool, true, false, not, cond, true≢false, false≢true}
use mathlib.Core.List.{List, [], ◌∷◌}
use Prim.Native.Nat.{ℕ, zero, suc, ◌≤◌, ◌<◌}
use native.Mathlib.Nat.{not-suc-le-zero, le_of_suc-le-suc, suc_inj, suc-ne-zero}
use native.Mathlib.Omega.{arith}
use lib.Dec.{eqb, ltb}
use lib.ListN.{length, get_or}
use borrow.Author.Tests.{ltb-true, lt-ltb, eqb-true, eq-eqb, not-true}
use Rattle.model.specs.Numbers.{elem, distinct, all_below, is_permutation, position}
use Rattle.model.proofs.Booleans.{and_left, and_right, both}

pub below_all : (n : ℕ) (xs : List ℕ) → all_below n xs ≡ true → (k : ℕ) → k < length xs → get_or xs k 0 < n
unfolding all_below
below_all n [] e k h = absurd (not-suc-le-zero h)
below_all n (x ∷ xs) e zero h = ltb-true x n (and_left (ltb x n) (all_below n xs) e)
below_all n (x ∷ xs) e (suc k) h = below_all n xs (and_right (ltb x n) (all_below n xs) e) k (le_of_suc-le-suc h)

pub all_below_lem : (n : ℕ) (xs : List ℕ) → ((k : ℕ) → k < length xs → get_or xs k 0 < n) → all_below n xs ≡ true
unfolding all_below
all_below_lem n [] h = refl
all_below_lem n (x ∷ xs) h = both (lt-ltb x n (h 0 (omega arith))) (all_below_lem n xs (λ k l. h (suc k) (omega arith)))

pub elem_at : (x : ℕ) (xs : List ℕ) → elem x xs ≡ true → (k : ℕ) × (k < length xs) × (get_or xs k 0 ≡ x)
unfolding elem
elem_at x [] e = absurd (false≢true e)
elem_at x (y ∷ ys) e = go (eqb x y) refl e (elem_at x ys)
  where
    go : (b : Bool) → eqb x y ≡ b → cond b true (elem x ys) ≡ true → (elem x ys ≡ true → (k : ℕ) × (k < length ys) × (get_or ys k 0 ≡ x))
        → (k : ℕ) × (k < length (y ∷ ys)) × (get_or (y ∷ ys) k 0 ≡ x)
    go true t e' ih = (0, omega arith, sym (eqb-true x y t))
    go false t e' ih = let r = ih e' in (suc r.0, omega arith, r.2)

pub at_elem : (x : ℕ) (xs : List ℕ) (k : ℕ) → k < length xs → get_or xs k 0 ≡ x → elem x xs ≡ true
unfolding elem
at_elem x [] k h e = absurd (not-suc-le-zero h)
at_elem x (y ∷ ys) zero h e = rw (eq-eqb x y (sym e))
at_elem x (y ∷ ys) (suc k) h e = go (eqb x y) (at_elem x ys k (le_of_suc-le-suc h) e)
  where
    go : (b : Bool) → elem x ys ≡ true → cond b true (elem x ys) ≡ true
    go true t = refl
    go false t = t

-- no two places have the same entry
abbrev pub Different : List ℕ → Type 0
Different xs = (j k : ℕ) → j < length xs → k < length xs → get_or xs j 0 ≡ get_or xs k 0 → j ≡ k

-- the first entry does not come again
not_again : (x : ℕ) (xs : List ℕ) (k : ℕ) → distinct (x ∷ xs) ≡ true → k < length xs → get_or xs k 0 ≡ x → ⊥
unfolding distinct
not_again x xs k d h e =
    false≢true (sym (not-true (elem x xs) (and_left (not (elem x xs)) (distinct xs) d)) ∙ at_elem x xs k h e)

pub distinct_at : (xs : List ℕ) → distinct xs ≡ true → Different xs
unfolding distinct
distinct_at [] e j k hj hk q = absurd (not-suc-le-zero hj)
distinct_at (x ∷ xs) e zero zero hj hk q = refl
distinct_at (x ∷ xs) e zero (suc k) hj hk q = absurd (not_again x xs k e (le_of_suc-le-suc hk) (sym q))
distinct_at (x ∷ xs) e (suc j) zero hj hk q = absurd (not_again x xs j e (le_of_suc-le-suc hj) q)
distinct_at (x ∷ xs) e (suc j) (suc k) hj hk q =
    ap suc (distinct_at xs (and_right (not (elem x xs)) (distinct xs) e) j k (le_of_suc-le-suc hj) (le_of_suc-le-suc hk) q)

pub at_distinct : (xs : List ℕ) → Different xs → distinct xs ≡ true
unfolding distinct
at_distinct [] h = refl
at_distinct (x ∷ xs) h =
    both (go (elem x xs) refl) (at_distinct xs (λ j k hj hk e. suc_inj (h (suc j) (suc k) (omega arith) (omega arith) e)))
  where
    go : (b : Bool) → elem x xs ≡ b → not b ≡ true
    go true t = let r = elem_at x xs t in absurd (suc-ne-zero _ (h (suc r.0) 0 (omega arith) (omega arith) r.2))
    go false t = refl

module _ (xs : List ℕ) where
  pub permutation_below : is_permutation xs ≡ true → (k : ℕ) → k < length xs → get_or xs k 0 < length xs
  unfolding is_permutation
  permutation_below e = below_all (length xs) xs (and_left (all_below (length xs) xs) (distinct xs) e)

  pub permutation_inj : is_permutation xs ≡ true → Different xs
  unfolding is_permutation
  permutation_inj e = distinct_at xs (and_right (all_below (length xs) xs) (distinct xs) e)

  pub permutation_of : ((k : ℕ) → k < length xs → get_or xs k 0 < length xs) → Different xs → is_permutation xs ≡ true
  unfolding is_permutation
  permutation_of b d = both (all_below_lem (length xs) xs b) (at_distinct xs d)

pub position_bound : (x : ℕ) (xs : List ℕ) (k : ℕ) → k < length xs → get_or xs k 0 ≡ x → (position x xs < length xs) × (get_or xs (position x xs) 0 ≡ x)
unfolding position
position_bound x [] k h e = absurd (not-suc-le-zero h)
position_bound x (y ∷ ys) zero h e = rw (eq-eqb x y (sym e)) (omega arith, e)
position_bound x (y ∷ ys) (suc k) h e = go (eqb x y) refl (position_bound x ys k (le_of_suc-le-suc h) e)
  where
    go : (b : Bool) → eqb x y ≡ b → (position x ys < length ys) × (get_or ys (position x ys) 0 ≡ x)
        → (cond b 0 (suc (position x ys)) < length (y ∷ ys)) × (get_or (y ∷ ys) (cond b 0 (suc (position x ys))) 0 ≡ x)
    go true t r = (omega arith, sym (eqb-true x y t))
    go false t r = (let z = r.0 in omega arith, r.1)

pub position_entry : (xs : List ℕ) → distinct xs ≡ true → (k : ℕ) → k < length xs → position (get_or xs k 0) xs ≡ k
position_entry xs e k h =
    let r = position_bound (get_or xs k 0) xs k h refl in distinct_at xs e (position (get_or xs k 0) xs) k r.0 h r.1

pub position_le : (x : ℕ) (xs : List ℕ) → position x xs ≤ length xs
unfolding position
position_le x [] = omega arith
position_le x (y ∷ ys) = go (eqb x y) (position_le x ys)
  where
    go : (b : Bool) → position x ys ≤ length ys → cond b 0 (suc (position x ys)) ≤ length (y ∷ ys)
    go true h = omega arith
    go false h = omega arith

pub position_found : (x : ℕ) (xs : List ℕ) → position x xs < length xs → get_or xs (position x xs) 0 ≡ x
unfolding position
position_found x [] h = absurd (not-suc-le-zero h)
position_found x (y ∷ ys) h = go (eqb x y) refl h (position_found x ys)
  where
    go : (b : Bool) → eqb x y ≡ b → cond b 0 (suc (position x ys)) < length (y ∷ ys) → (position x ys < length ys → get_or ys (position x ys) 0 ≡ x)
        → get_or (y ∷ ys) (cond b 0 (suc (position x ys))) 0 ≡ x
    go true t l more = sym (eqb-true x y t)
    go false t l more = more (le_of_suc-le-suc l)

pub position_lacks : (x : ℕ) (xs : List ℕ) → elem x xs ≡ false → position x xs ≡ length xs
unfolding position elem
position_lacks x [] e = refl
position_lacks x (y ∷ ys) e = go (eqb x y) e (position_lacks x ys)
  where
    go : (b : Bool) → cond b true (elem x ys) ≡ false → (elem x ys ≡ false → position x ys ≡ length ys) → cond b 0 (suc (position x ys)) ≡ length (y ∷ ys)
    go true z more = absurd (true≢false z)
    go false z more = ap suc (more z)
