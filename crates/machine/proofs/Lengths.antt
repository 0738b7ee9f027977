-- How long the tree bits and labels of a word are that goes on well from a state.
--
--   no_entries, length_tail, head_tail   a list of a known length
--   ups_count, seconds_count   it ends each open edge once
--   bits_count             it has as many letters as tree bits and open edges outside the tree
--   letters_count          and two for each label, one for each open edge
use Prim.Native.Nat.{ℕ, suc, ◌+◌, ◌*◌}
use native.Mathlib.Omega.{arith}
use mathlib.Core.Path.{◌≡◌, refl, ap}
use mathlib.Core.Bool.{Bool, true, false, false≢true}
use mathlib.Core.List.{List, [], ◌∷◌}
use lib.ListN.{length}
use Rattle.model.specs.Traversal.{Letter, down, up, first, second}
use Rattle.words.specs.Word.{nested, head, tail, ends_one, ends, word_labels, word_bits}
use Rattle.machine.proofs.Nesting.{second_rest}

pub no_entries : (xs : List ℕ) → length xs ≡ 0 → xs ≡ []
no_entries [] e = refl
no_entries (x ∷ xs) e = absurd (omega arith)

pub length_tail : (xs : List ℕ) (k : ℕ) → length xs ≡ suc k → length (tail xs) ≡ k
length_tail [] k e = absurd (omega arith)
length_tail (x ∷ xs) k e = omega arith

pub head_tail : (xs : List ℕ) (k : ℕ) → length xs ≡ suc k → head xs ∷ tail xs ≡ xs
head_tail [] k e = absurd (omega arith)
head_tail (x ∷ xs) k e = refl

-- each letter's part in all four counts; b as in `word_bits`
record Counted (b : Bool) (below opens : List ℕ) (w : List Letter) : Type 0 where
  ups : length (ends w).ups ≡ length below
  seconds : length (ends w).seconds ≡ length opens
  bits : length (word_bits b w) + length opens ≡ length w
  letters : length w ≡ 2 * length (word_labels w) + (length below + length opens)

counted : (b : Bool) (n here : ℕ) (below opens : List ℕ) (w : List Letter) → nested false n here below opens w ≡ true → Counted b below opens w
unfolding nested ends ends_one word_bits word_labels
counted b n here [] [] [] e = record { ups = refl; seconds = refl; bits = refl; letters = refl }
counted b n here [] (o ∷ os) [] e = absurd (false≢true e)
counted b n here (v ∷ vs) opens [] e = absurd (false≢true e)
counted b n here below opens (down ∷ w) e =
    let c = counted true (suc n) n (here ∷ below) opens w e in
    let h = c.bits in
    let k = c.letters in
    record { ups = length_tail (ends w).ups (length below) c.ups; seconds = c.seconds; bits = omega arith; letters = omega arith }
counted b n here [] opens (up ∷ w) e = absurd (false≢true e)
counted b n here (v ∷ vs) opens (up ∷ w) e =
    let c = counted false n v vs opens w e in
    let h = c.bits in
    let k = c.letters in
    record { ups = ap suc c.ups; seconds = c.seconds; bits = omega arith; letters = omega arith }
counted b n here below opens (first ∷ w) e =
    let c = counted false n here below (here ∷ opens) w e in
    let h = c.bits in
    let k = c.letters in
    record { ups = c.ups; seconds = length_tail (ends w).seconds (length opens) c.seconds; bits = omega arith; letters = omega arith }
counted b n here below [] (second ∷ w) e = absurd (false≢true e)
counted b n here below (o ∷ os) (second ∷ w) e =
    let c = counted false n here below os w (second_rest n here below o os w e).1 in
    let h = c.bits in
    let k = c.letters in
    record { ups = c.ups; seconds = ap suc c.seconds; bits = omega arith; letters = omega arith }

module _ (n here : ℕ) (below opens : List ℕ) (w : List Letter) (e : nested false n here below opens w ≡ true) where
  pub ups_count : length (ends w).ups ≡ length below
  ups_count = (counted false n here below opens w e).ups

  pub seconds_count : length (ends w).seconds ≡ length opens
  seconds_count = (counted false n here below opens w e).seconds

  pub bits_count : length (word_bits false w) + length opens ≡ length w
  bits_count = (counted false n here below opens w e).bits

  pub letters_count : length w ≡ 2 * length (word_labels w) + (length below + length opens)
  letters_count = (counted false n here below opens w e).letters
