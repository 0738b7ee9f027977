-- Lists whose entries are all below a bound. By places: `below_all`, `all_below_lem` of Permutations.
--
--   below_cons, below_head, below_tail   the first entry and the others
--   below_append          both lists are below: their sequence is
--   below_take, below_drop, below_replicate   parts, and one number many times
--   below_set             an entry put
--   below_mono            a larger bound
--   below_next, below_stop, below_end   the entries from place k on, entry by entry
--   blank_zeros, zeros_blank   all entries are below 1: they are zeros
use Prim.Native.Nat.{ℕ, zero, suc, ◌+◌, ◌≤◌, ◌<◌}
use native.Mathlib.Nat.{lt_of_lt_of_le}
use native.Mathlib.Numerals.{add-one}
use native.Mathlib.Omega.{arith}
use mathlib.Core.Path.{◌≡◌, refl}
use mathlib.Core.Bool.{true, false}
use mathlib.Core.List.{List, [], ◌∷◌, ◌++◌}
use lib.Dec.{ltb}
use lib.ListN.{length, get_or, set, take, drop, replicate, drop_of_length-le}
use lib.Seq.{drop-cons}
use borrow.Author.Tests.{ltb-true, lt-ltb, le-ltb}
use Rattle.model.specs.Numbers.{all_below}
use Rattle.model.proofs.Booleans.{and_left, and_right, both}

module _ (n : ℕ) where
  pub below_cons : (x : ℕ) (xs : List ℕ) → x < n → all_below n xs ≡ true → all_below n (x ∷ xs) ≡ true
  unfolding all_below
  below_cons x xs h e = both (lt-ltb x n h) e

  pub below_head : (x : ℕ) (xs : List ℕ) → all_below n (x ∷ xs) ≡ true → x < n
  unfolding all_below
  below_head x xs e = ltb-true x n (and_left _ (all_below n xs) e)

  pub below_tail : (x : ℕ) (xs : List ℕ) → all_below n (x ∷ xs) ≡ true → all_below n xs ≡ true
  unfolding all_below
  below_tail x xs e = and_right (ltb x n) _ e

  pub below_append : (xs ys : List ℕ) → all_below n xs ≡ true → all_below n ys ≡ true → all_below n (xs ++ ys) ≡ true
  below_append [] ys d e = e
  below_append (x ∷ xs) ys d e = below_cons x (xs ++ ys) (below_head x xs d) (below_append xs ys (below_tail x xs d) e)

  pub below_take : (k : ℕ) (xs : List ℕ) → all_below n xs ≡ true → all_below n (take k xs) ≡ true
  unfolding all_below
  below_take zero xs e = refl
  below_take (suc k) [] e = refl
  below_take (suc k) (x ∷ xs) e = below_cons x (take k xs) (below_head x xs e) (below_take k xs (below_tail x xs e))

  pub below_drop : (k : ℕ) (xs : List ℕ) → all_below n xs ≡ true → all_below n (drop k xs) ≡ true
  below_drop zero xs e = e
  below_drop (suc k) [] e = e
  below_drop (suc k) (x ∷ xs) e = below_drop k xs (below_tail x xs e)

  pub below_replicate : (k x : ℕ) → x < n → all_below n (replicate k x) ≡ true
  unfolding all_below
  below_replicate zero x h = refl
  below_replicate (suc k) x h = below_cons x (replicate k x) h (below_replicate k x h)

  pub below_set : (xs : List ℕ) (k x : ℕ) → x < n → all_below n xs ≡ true → all_below n (set xs k x) ≡ true
  below_set [] k x h e = e
  below_set (y ∷ ys) zero x h e = below_cons x ys h (below_tail y ys e)
  below_set (y ∷ ys) (suc k) x h e = below_cons y (set ys k x) (below_head y ys e) (below_set ys k x h (below_tail y ys e))

pub below_mono : (n m : ℕ) → n ≤ m → (xs : List ℕ) → all_below n xs ≡ true → all_below m xs ≡ true
unfolding all_below
below_mono n m l [] e = refl
below_mono n m l (x ∷ xs) e = below_cons m x xs (lt_of_lt_of_le (below_head n x xs e) l) (below_mono n m l xs (below_tail n x xs e))

module _ (n : ℕ) (xs : List ℕ) (k : ℕ) where
  pub below_next : k < length xs → get_or xs k 0 < n → all_below n (drop k xs) ≡ all_below n (drop (k + 1) xs)
  unfolding all_below
  below_next h l = rw (add-one, drop-cons xs k 0 h) (simp (lt-ltb _ _ l))

  pub below_stop : k < length xs → n ≤ get_or xs k 0 → all_below n (drop k xs) ≡ false
  unfolding all_below
  below_stop h l = rw (drop-cons xs k 0 h) (simp (le-ltb _ _ l))

  pub below_end : length xs ≤ k → all_below n (drop k xs) ≡ true
  unfolding all_below
  below_end h = rw (drop_of_length-le xs h)

pub blank_zeros : (xs : List ℕ) → all_below 1 xs ≡ true → xs ≡ replicate (length xs) 0
blank_zeros [] e = refl
blank_zeros (x ∷ xs) e =
    let h = below_head 1 x xs e in
    let z : x ≡ 0 = omega arith in
    rw (z, ← blank_zeros xs (below_tail 1 x xs e))

pub zeros_blank : (n : ℕ) → all_below 1 (replicate n 0) ≡ true
zeros_blank n = below_replicate 1 n 0 (omega arith)
