-- What a word that goes on well from a state says of it.
--
--   nest_end           at its end nothing is open
--   nest_up            up leads to a vertex from which the present one hangs
--   nest_second        second ends an edge that began at a later vertex than the present
--   second_rest, second_nests   the same where the open edges are known, and its converse
--   no_second          no second comes next where the last open edge began here or earlier
--   bits_on            below the root, a word that begins with neither up nor second begins with bit 1, whatever letter stands before it
--   not_up             a word whose first bit is not 0 does not begin with up
--   bits_after         the bits of a word that does not begin with up do not depend on the letter before it
use Prim.Native.Nat.{ℕ, ◌≤◌, ◌<◌}
use native.Mathlib.Omega.{arith}
use mathlib.Core.Path.{◌≡◌, refl, ap}
use mathlib.Core.Logic.{◌≢◌}
use mathlib.Core.Bool.{true, false, false≢true, true≢false, and-eq-true_iff}
use mathlib.Core.List.{List, [], ◌∷◌}
use lib.Dec.{ltb}
use borrow.Author.Tests.{ltb-true, lt-ltb}
use Rattle.model.specs.Traversal.{Letter, down, up, first, second}
use Rattle.words.specs.Word.{nested, starts_up, starts_second, head, word_bits}

module _ (n here : ℕ) where
  pub nest_end : (below opens : List ℕ) → nested false n here below opens [] ≡ true → (below ≡ []) × (opens ≡ [])
  unfolding nested
  nest_end [] [] e = (refl, refl)
  nest_end [] (o ∷ os) e = absurd (false≢true e)
  nest_end (v ∷ vs) opens e = absurd (false≢true e)

  pub nest_up : (below opens : List ℕ) (w : List Letter) → nested false n here below opens (up ∷ w) ≡ true
      → (v : ℕ) × (vs : List ℕ) × (below ≡ v ∷ vs) × (nested false n v vs opens w ≡ true)
  unfolding nested
  nest_up [] opens w e = absurd (false≢true e)
  nest_up (v ∷ vs) opens w e = (v, vs, refl, e)

  pub second_rest : (below : List ℕ) (o : ℕ) (os : List ℕ) (w : List Letter) → nested false n here below (o ∷ os) (second ∷ w) ≡ true
      → (here < o) × (nested false n here below os w ≡ true)
  unfolding nested
  second_rest below o os w e = let r = (and-eq-true_iff (ltb here o) (nested false n here below os w)).0 e in (ltb-true here o r.0, r.1)

  pub second_nests : (below : List ℕ) (o : ℕ) (os : List ℕ) (w : List Letter) → here < o → nested false n here below os w ≡ true
      → nested false n here below (o ∷ os) (second ∷ w) ≡ true
  unfolding nested
  second_nests below o os w h e = (and-eq-true_iff (ltb here o) (nested false n here below os w)).1 (lt-ltb here o h, e)

  pub nest_second : (below opens : List ℕ) (w : List Letter) → nested false n here below opens (second ∷ w) ≡ true
      → (o : ℕ) × (os : List ℕ) × (opens ≡ o ∷ os) × (here < o) × (nested false n here below os w ≡ true)
  unfolding nested
  nest_second below [] w e = absurd (false≢true e)
  nest_second below (o ∷ os) w e = let r = second_rest below o os w e in (o, os, refl, r.0, r.1)

  pub no_second : (below opens : List ℕ) (w : List Letter) → head opens ≤ here → nested false n here below opens w ≡ true → starts_second w ≡ 0
  unfolding nested starts_second
  no_second below opens [] h e = refl
  no_second below opens (down ∷ w) h e = refl
  no_second below opens (up ∷ w) h e = refl
  no_second below opens (first ∷ w) h e = refl
  no_second below [] (second ∷ w) h e = absurd (false≢true e)
  no_second below (o ∷ os) (second ∷ w) h e = let l = (second_rest below o os w e).0 in absurd (omega arith)

  pub bits_on : (v : ℕ) (vs opens : List ℕ) (w : List Letter) → nested false n here (v ∷ vs) opens w ≡ true → starts_up w ≡ false → starts_second w ≡ 0
      → (bs : List ℕ) × (word_bits true w ≡ 1 ∷ bs) × (word_bits false w ≡ 1 ∷ bs)
  unfolding nested starts_up starts_second word_bits
  bits_on v vs opens [] e u z = absurd (false≢true e)
  bits_on v vs opens (down ∷ w) e u z = (word_bits true w, refl, refl)
  bits_on v vs opens (up ∷ w) e u z = absurd (true≢false u)
  bits_on v vs opens (first ∷ w) e u z = (0 ∷ word_bits false w, refl, refl)
  bits_on v vs opens (second ∷ w) e u z = absurd (omega arith)

pub not_up : (w : List Letter) (c : ℕ) (bs : List ℕ) → c ≢ 0 → c ∷ bs ≡ word_bits false w → starts_up w ≡ false
unfolding starts_up word_bits
not_up [] c bs z e = refl
not_up (down ∷ w) c bs z e = refl
not_up (up ∷ w) c bs z e = absurd (z (ap head e))
not_up (first ∷ w) c bs z e = refl
not_up (second ∷ w) c bs z e = refl

pub bits_after : (w : List Letter) → starts_up w ≡ false → word_bits false w ≡ word_bits true w
unfolding starts_up word_bits
bits_after [] u = refl
bits_after (down ∷ w) u = refl
bits_after (up ∷ w) u = absurd (true≢false u)
bits_after (first ∷ w) u = refl
bits_after (second ∷ w) u = refl
