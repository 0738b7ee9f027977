-- How large the tree bits and labels of a word are. They need no valid word.
--
--   all_part, head_below, tail_below   entries below n, one by one
--   second_below           `starts_second` is below 2
--   ups_below, seconds_below   the labels of the edges that a word ends are below 2, tree and others
--   labels_below           its labels are below 3: a star is 2
--   labels_plain           they are below 2 where no vertex but the root has degree one
--   plain_labels           and only there
--   bits_below             its tree bits are below 2
use Prim.Native.Nat.{ℕ, ◌<◌}
use native.Mathlib.Omega.{arith}
use mathlib.Core.Path.{◌≡◌, refl}
use mathlib.Core.Bool.{Bool, true, false, ◌||◌, cond, true≢false}
use mathlib.Core.List.{List, [], ◌∷◌}
use lib.Dec.{lit<}
use Rattle.model.specs.Numbers.{all_below}
use Rattle.model.specs.Traversal.{Letter, down, up, first, second}
use Rattle.model.specs.LabelledTree.{star}
use Rattle.model.proofs.Below.{below_cons, below_head, below_tail}
use Rattle.words.specs.Word.{starts_up, bare_leaf, starts_second, Ends, head, tail, ends_one, ends, word_labels, word_bits}

pub all_part : (n : ℕ) (xs : List ℕ) (y : ℕ) (ys : List ℕ) → xs ≡ y ∷ ys → all_below n xs ≡ true → (y < n) × (all_below n ys ≡ true)
all_part n xs y ys e h = let k : all_below n (y ∷ ys) ≡ true = rw e at h in (below_head n y ys k, below_tail n y ys k)

pub head_below : (n : ℕ) (xs : List ℕ) → 0 < n → all_below n xs ≡ true → head xs < n
head_below n [] h e = h
head_below n (x ∷ xs) h e = below_head n x xs e

pub tail_below : (n : ℕ) (xs : List ℕ) → all_below n xs ≡ true → all_below n (tail xs) ≡ true
tail_below n [] e = e
tail_below n (x ∷ xs) e = below_tail n x xs e

pub second_below : (w : List Letter) → starts_second w < 2
unfolding starts_second
second_below [] = lit< tt
second_below (down ∷ w) = lit< tt
second_below (up ∷ w) = lit< tt
second_below (first ∷ w) = lit< tt
second_below (second ∷ w) = lit< tt

-- ---- the labels of the edges that a word ends

abbrev Small : Ends → Type 0
Small e = (all_below 2 e.ups ≡ true) × (all_below 2 e.seconds ≡ true)

small_one : (l : Letter) (w : List Letter) (e : Ends) → Small e → Small (ends_one l w e)
unfolding ends_one
small_one down w e s = (tail_below 2 e.ups s.0, s.1)
small_one up w e s = (below_cons 2 (starts_second w) e.ups (second_below w) s.0, s.1)
small_one first w e s = (s.0, tail_below 2 e.seconds s.1)
small_one second w e s = (s.0, below_cons 2 (starts_second w) e.seconds (second_below w) s.1)

small : (w : List Letter) → Small (ends w)
unfolding ends all_below
small [] = (refl, refl)
small (l ∷ w) = small_one l w (ends w) (small w)

pub ups_below : (w : List Letter) → all_below 2 (ends w).ups ≡ true
ups_below w = (small w).0

pub seconds_below : (w : List Letter) → all_below 2 (ends w).seconds ≡ true
seconds_below w = (small w).1

-- ---- the labels that it opens

label_below_lem : (w : List Letter) → cond (starts_up w) star (head (ends w).ups) < 3
label_below_lem w = go (starts_up w)
  where
    go : (b : Bool) → cond b star (head (ends w).ups) < 3
    go true = lit< tt
    go false = let h = head_below 2 (ends w).ups (lit< tt) (ups_below w) in omega arith

pub labels_below : (w : List Letter) → all_below 3 (word_labels w) ≡ true
unfolding word_labels ends ends_one all_below
labels_below [] = refl
labels_below (down ∷ w) = below_cons 3 (cond (starts_up w) star (head (ends w).ups)) (word_labels w) (label_below_lem w) (labels_below w)
labels_below (up ∷ w) = labels_below w
labels_below (first ∷ w) =
    let h = head_below 2 (ends w).seconds (lit< tt) (seconds_below w) in
    below_cons 3 (head (ends w).seconds) (word_labels w) (omega arith) (labels_below w)
labels_below (second ∷ w) = labels_below w

-- a star stands exactly where a vertex but the root has degree one
pub labels_plain : (w : List Letter) → bare_leaf w ≡ false → all_below 2 (word_labels w) ≡ true
unfolding word_labels ends ends_one all_below bare_leaf
labels_plain [] e = refl
labels_plain (down ∷ w) e = go (starts_up w) e (labels_plain w)
  where
    go : (b : Bool) → (b || bare_leaf w) ≡ false → (bare_leaf w ≡ false → all_below 2 (word_labels w) ≡ true)
        → all_below 2 (cond b star (head (ends w).ups) ∷ word_labels w) ≡ true
    go true e' ih = absurd (true≢false e')
    go false e' ih = below_cons 2 (head (ends w).ups) (word_labels w) (head_below 2 (ends w).ups (lit< tt) (ups_below w)) (ih e')
labels_plain (up ∷ w) e = labels_plain w e
labels_plain (first ∷ w) e =
    below_cons 2 (head (ends w).seconds) (word_labels w) (head_below 2 (ends w).seconds (lit< tt) (seconds_below w)) (labels_plain w e)
labels_plain (second ∷ w) e = labels_plain w e

pub plain_labels : (w : List Letter) → all_below 2 (word_labels w) ≡ true → bare_leaf w ≡ false
unfolding word_labels ends ends_one all_below bare_leaf
plain_labels [] e = refl
plain_labels (down ∷ w) e = go (starts_up w) e (plain_labels w)
  where
    go : (b : Bool) → all_below 2 (cond b star (head (ends w).ups) ∷ word_labels w) ≡ true → (all_below 2 (word_labels w) ≡ true → bare_leaf w ≡ false)
        → (b || bare_leaf w) ≡ false
    go true e' ih = let h = below_head 2 star (word_labels w) e' in absurd (omega arith)
    go false e' ih = ih (below_tail 2 (head (ends w).ups) (word_labels w) e')
plain_labels (up ∷ w) e = plain_labels w e
plain_labels (first ∷ w) e = plain_labels w (below_tail 2 (head (ends w).seconds) (word_labels w) e)
plain_labels (second ∷ w) e = plain_labels w e

-- ---- the tree bits

up_bit_below : (b : Bool) (w : List Letter) → cond b (starts_second w) 0 < 2
up_bit_below true w = second_below w
up_bit_below false w = lit< tt

pub bits_below : (b : Bool) (w : List Letter) → all_below 2 (word_bits b w) ≡ true
unfolding word_bits all_below
bits_below b [] = refl
bits_below b (down ∷ w) = bits_below true w
bits_below b (up ∷ w) = below_cons 2 (cond b (starts_second w) 0) (word_bits false w) (up_bit_below b w) (bits_below false w)
bits_below b (first ∷ w) = bits_below false w
bits_below b (second ∷ w) = bits_below false w
