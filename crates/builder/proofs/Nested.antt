-- Which words go on well, letter by letter; n, here, below and opens as in `nested`. Assumes nothing.
--
--   nested_up, nested_second   an edge that is open ends, and the word goes on
--   up_some, second_some  where the word goes on well with the letter, an edge is open that may end
--   nested_all_closed     a word that goes on well has a letter for each edge that is open
--   nested_first_dart     the first dart of a word that goes on well from the start is 0
use Prim.Native.Nat.{ℕ, suc, ◌+◌, ◌≤◌, ◌<◌}
use native.Mathlib.Nat.{not-suc-le-zero}
use native.Mathlib.Omega.{arith}
use mathlib.Core.Path.{◌≡◌, refl}
use mathlib.Core.Bool.{Bool, true, false≢true}
use mathlib.Core.List.{List, [], ◌∷◌}
use lib.ListN.{length}
use Rattle.model.specs.Traversal.{Letter, down, up, first, second}
use Rattle.model.proofs.Booleans.{and_left, and_right}
use Rattle.words.specs.Word.{closes, nested, head, tail, word_darts}

module _ (loops : Bool) (n here : ℕ) where
  pub nested_up : (below opens : List ℕ) (v : List Letter) → 0 < length below
      → nested loops n (head below) (tail below) opens v ≡ nested loops n here below opens (up ∷ v)
  unfolding nested
  nested_up [] opens v h = absurd (not-suc-le-zero h)
  nested_up (b ∷ bs) opens v h = refl

  pub nested_second : (below opens : List ℕ) (v : List Letter) → 0 < length opens → closes loops here (head opens) ≡ true
      → nested loops n here below (tail opens) v ≡ nested loops n here below opens (second ∷ v)
  unfolding nested
  nested_second below [] v h e = absurd (not-suc-le-zero h)
  nested_second below (o ∷ os) v h e = rw e

  pub up_some : (below opens : List ℕ) (v : List Letter) → nested loops n here below opens (up ∷ v) ≡ true → 0 < length below
  unfolding nested
  up_some [] opens v e = absurd (false≢true e)
  up_some (b ∷ bs) opens v e = omega arith

  pub second_some : (below opens : List ℕ) (v : List Letter) → nested loops n here below opens (second ∷ v) ≡ true
      → (0 < length opens) × (closes loops here (head opens) ≡ true)
  unfolding nested
  second_some below [] v e = absurd (false≢true e)
  second_some below (o ∷ os) v e = (omega arith, and_left (closes loops here o) _ e)

-- each open edge has a letter that ends it
pub nested_all_closed : (loops : Bool) (n here : ℕ) (below opens : List ℕ) (v : List Letter) → nested loops n here below opens v ≡ true
    → length below + length opens ≤ length v
unfolding nested
nested_all_closed loops n here [] [] [] e = omega arith
nested_all_closed loops n here [] (o ∷ os) [] e = absurd (false≢true e)
nested_all_closed loops n here (b ∷ bs) opens [] e = absurd (false≢true e)
nested_all_closed loops n here below opens (down ∷ v) e = let ih = nested_all_closed loops (suc n) n (here ∷ below) opens v e in omega arith
nested_all_closed loops n here [] opens (up ∷ v) e = absurd (false≢true e)
nested_all_closed loops n here (b ∷ bs) opens (up ∷ v) e = let ih = nested_all_closed loops n b bs opens v e in omega arith
nested_all_closed loops n here below opens (first ∷ v) e = let ih = nested_all_closed loops n here below (here ∷ opens) v e in omega arith
nested_all_closed loops n here below [] (second ∷ v) e = absurd (false≢true e)
nested_all_closed loops n here below (o ∷ os) (second ∷ v) e =
    let ih = nested_all_closed loops n here below os v (and_right (closes loops here o) _ e) in omega arith

pub nested_first_dart : (loops : Bool) (n here : ℕ) (v : List Letter) → nested loops n here [] [] v ≡ true → head (word_darts 0 [] [] v) ≡ 0
unfolding nested word_darts
nested_first_dart loops n here [] e = refl
nested_first_dart loops n here (down ∷ v) e = refl
nested_first_dart loops n here (up ∷ v) e = absurd (false≢true e)
nested_first_dart loops n here (first ∷ v) e = refl
nested_first_dart loops n here (second ∷ v) e = absurd (false≢true e)
