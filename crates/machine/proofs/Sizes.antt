-- How many tree bits and labels a word without loops has, and how large they are.
--
--   bits_length        as many tree bits as letters
--   letters_length     two letters for each label
--   labels_bound       labels below 3, in kind 1 below 2; the tree bits are below 2 in any word (`bits_below` of Bounds)
--   bound_three, bound_two, bound_of   labels below the bound of a kind, by kind
use Prim.Native.Nat.{ℕ, ◌*◌}
use native.Mathlib.Omega.{arith}
use mathlib.Core.Path.{◌≡◌, refl}
use mathlib.Core.Bool.{Bool, true, false, cond}
use mathlib.Core.List.{List, []}
use lib.Dec.{eqb}
use lib.ListN.{length}
use Rattle.model.specs.Numbers.{all_below}
use Rattle.model.specs.Traversal.{Letter}
use Rattle.model.specs.Record.{label_base}
use Rattle.model.proofs.Below.{below_mono}
use Rattle.words.specs.Word.{nested, bare_leaf, word_labels, word_bits}
use Rattle.machine.proofs.Bounds.{labels_below, labels_plain}
use Rattle.machine.proofs.Lengths.{bits_count, letters_count}

-- ---- the bound of a kind

pub bound_three : (k : ℕ) (labels : List ℕ) → all_below (label_base k) labels ≡ true → all_below 3 labels ≡ true
unfolding label_base
bound_three k labels h = go (eqb k 1) h
  where
    go : (b : Bool) → all_below (cond b 2 3) labels ≡ true → all_below 3 labels ≡ true
    go true e = below_mono 2 3 (omega arith) labels e
    go false e = e

pub bound_two : (k : ℕ) (labels : List ℕ) → all_below (label_base k) labels ≡ true → eqb k 1 ≡ true → all_below 2 labels ≡ true
unfolding label_base all_below
bound_two k labels h e = rw e at h

pub bound_of : (k : ℕ) (labels : List ℕ) → all_below 3 labels ≡ true → (eqb k 1 ≡ true → all_below 2 labels ≡ true)
    → all_below (label_base k) labels ≡ true
unfolding label_base
bound_of k labels h e = go (eqb k 1) e
  where
    go : (b : Bool) → (b ≡ true → all_below 2 labels ≡ true) → all_below (cond b 2 3) labels ≡ true
    go true e = e refl
    go false e = h

-- ---- the word

module _ (w : List Letter) (nests : nested false 1 0 [] [] w ≡ true) where
  pub bits_length : length (word_bits false w) ≡ length w
  bits_length = let h = bits_count 1 0 [] [] w nests in omega arith

  pub letters_length : length w ≡ 2 * length (word_labels w)
  letters_length = let h = letters_count 1 0 [] [] w nests in omega arith

pub labels_bound : (k : ℕ) (w : List Letter) → (eqb k 1 ≡ true → bare_leaf w ≡ false) → all_below (label_base k) (word_labels w) ≡ true
labels_bound k w plain = bound_of k (word_labels w) (labels_below w) (λ e. labels_plain w (plain e))
