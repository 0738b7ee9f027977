-- Darts entered one after the other, each where the dart before it waits for its successor. Assumes nothing.
--
--   linked_step           the next dart is entered at the place that waits for it; its own place waits then
--   linked_end            after the last letter dart 0 is entered
--   linked_whole          a word that begins with dart 0, linked from the start, gives its rotation
use Prim.Native.Nat.{ℕ, zero, suc}
use mathlib.Core.Path.{◌≡◌, refl}
use mathlib.Core.List.{List, [], ◌∷◌}
use lib.ListN.{length, set, replicate}
use Rattle.model.specs.Traversal.{Letter}
use Rattle.words.specs.Word.{head, word_darts, place_of, link, rotation_of}
use Rattle.builder.specs.Steps.{linked}

pub linked_step : (q p : ℕ) (l : Letter) (v : List Letter) (x : ℕ) (xs out : List ℕ) → p ≡ place_of l x
    → linked p v xs (set out q x) ≡ linked q (l ∷ v) (x ∷ xs) out
unfolding linked link
linked_step q p l v x xs out e = rw e

pub linked_end : (q : ℕ) (out : List ℕ) → linked q [] [] out ≡ set out q 0
unfolding linked link
linked_end q out = refl

abbrev blank : ℕ → List ℕ
blank n = replicate n 0

set_zero : (n : ℕ) → set (blank n) 0 0 ≡ blank n
set_zero zero = refl
set_zero (suc n) = refl

pub linked_whole : (n : ℕ) (v : List Letter) → length v ≡ n → head (word_darts 0 [] [] v) ≡ 0
    → linked 0 v (word_darts 0 [] [] v) (blank n) ≡ rotation_of v
unfolding linked rotation_of
linked_whole n v l e = rw (e, l, set_zero n)
