-- How many pairs of tree bits and labels the machine reads, and how many words are nested, for one, two and three edges.
--
--   countdown n        the numbers below n, the greatest first
--   prefixed xs yss    each of xs before each of yss
--   lists b n          all lists of n numbers below b
--   one r              1 for a word, 0 for none
--   read_with, read_all  how many of some labels are read with these bits; with some bits
--   readable b m       how many pairs of 2m tree bits and m labels below b are read
--   counts             none, 1 and 3 with labels below 2, as in kind 1; 1, 3 and 13 with labels below 3, as in kind 2
--   letter_of_number     a letter by number
--   nested_among ws     how many of the words ws are nested with loops taken
--   letter_counts      2, 9 and 54 words of two, four and six letters are, as in kind 4
--   label_left         with a label more than edges nothing is read
use Prim.Native.Nat.{ℕ, zero, suc, ◌+◌, ◌*◌}
use mathlib.Core.Path.{◌≡◌, refl}
use mathlib.Core.Bool.{cond}
use mathlib.Core.List.{List, [], ◌∷◌, ◌++◌, map}
use lib.Dec.{eqb}
use Rattle.model.specs.Traversal.{Letter, down, up, first, second}
use Rattle.words.specs.Word.{Found, found, none, close_edge, finish, go_up, go_down, read_bit, turn, decode, start, decode_word, nested, nested_word}

unfoldable pub countdown : ℕ → List ℕ
countdown zero = []
countdown (suc n) = n ∷ countdown n

unfoldable pub prefixed : List ℕ → List (List ℕ) → List (List ℕ)
prefixed [] yss = []
prefixed (x ∷ xs) yss = map (λ ys. x ∷ ys) yss ++ prefixed xs yss

unfoldable pub lists : ℕ → ℕ → List (List ℕ)
lists b zero = [] ∷ []
lists b (suc n) = prefixed (countdown b) (lists b n)

unfoldable pub one : Found → ℕ
one none = 0
one (found w) = 1

unfoldable pub read_with : List ℕ → List (List ℕ) → ℕ
read_with bits [] = 0
read_with bits (labels ∷ rest) = one (decode_word bits labels) + read_with bits rest

unfoldable pub read_all : List (List ℕ) → List (List ℕ) → ℕ
read_all [] labels = 0
read_all (bits ∷ rest) labels = read_with bits labels + read_all rest labels

unfoldable pub readable : ℕ → ℕ → ℕ
readable b m = read_all (lists 2 (2 * m)) (lists b m)

pub counts : map (readable 2) (1 ∷ 2 ∷ 3 ∷ []) ++ map (readable 3) (1 ∷ 2 ∷ 3 ∷ []) ≡ 0 ∷ 1 ∷ 3 ∷ 1 ∷ 3 ∷ 13 ∷ []
unfolding readable read_all read_with one lists prefixed countdown decode_word start decode turn read_bit go_down go_up finish close_edge
counts = refl

abbrev pub letter_of_number : ℕ → Letter
letter_of_number n = cond (eqb n 0) down (cond (eqb n 1) up (cond (eqb n 2) first second))

unfoldable pub nested_among : List (List ℕ) → ℕ
nested_among [] = 0
nested_among (w ∷ ws) = one (nested_word (map letter_of_number w)) + nested_among ws

pub letter_counts : map (λ m. nested_among (lists 4 (2 * m))) (1 ∷ 2 ∷ 3 ∷ []) ≡ 2 ∷ 9 ∷ 54 ∷ []
unfolding nested_among one lists prefixed countdown nested_word nested
letter_counts = refl

-- one star, and a label that no edge takes
pub label_left : decode_word (1 ∷ 0 ∷ []) (2 ∷ 0 ∷ []) ≡ none
unfolding decode_word start decode turn read_bit go_down finish
label_left = refl
