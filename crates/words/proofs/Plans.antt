-- Sizes of the plan that is built from a word.
--
--   head_at           the head of a list is its first entry
--   link_length       what is linked keeps its length
--   rotation_length   there is an entry for each letter
use Prim.Native.Nat.{ℕ}
use mathlib.Core.Path.{◌≡◌, refl, ◌∙◌}
use mathlib.Core.List.{List, [], ◌∷◌}
use lib.ListN.{length, get_or, set, replicate, length-set, length-replicate}
use Rattle.model.specs.Traversal.{Letter}
use Rattle.words.specs.Word.{head, word_darts, place_of, link, rotation_of}

pub head_at : (xs : List ℕ) → head xs ≡ get_or xs 0 0
head_at [] = refl
head_at (x ∷ xs) = refl

pub link_length : (w : List Letter) (xs out : List ℕ) → length (link w xs out) ≡ length out
unfolding link
link_length [] xs out = refl
link_length (l ∷ w) [] out = refl
link_length (l ∷ w) (x ∷ xs) out = link_length w xs (set out (place_of l x) (head xs)) ∙ length-set out (place_of l x) (head xs)

pub rotation_length : (w : List Letter) → length (rotation_of w) ≡ length w
unfolding rotation_of
rotation_length w = link_length w (word_darts 0 [] [] w) (replicate (length w) 0) ∙ length-replicate (length w) 0
