-- What the machine `nested` and `word_darts` hold before position i of a word: ℓ i is the letter there.
--
--   opened ℓ i            how many edges open before i
--   vertex_count ℓ i       how many vertices are entered before i, with the root
--   vertex_top ℓ s         the number of the present vertex, where s is the stack of tree edges
--   vertex_no ℓ i          the number of the vertex where the traversal stands before i, in the order of entering
--   below_of ℓ s           the numbers of the vertices that it hangs from
--   dart_by ℓ i l, dart_no ℓ i   the standard dart at position i
--   Balance ℓ N           the brackets match
--   Closes loops ℓ N      each edge outside the tree ends where it may: at a vertex with a lower number than where it began, or, a loop, with the same
use Rattle.std.specs.Prelude.{ℕ, suc, ◌+◌, ◌*◌, ◌<◌, ◌≡◌, Bool, true, List, [], ◌∷◌, map}
use Rattle.model.specs.Numbers.{count}
use Rattle.model.specs.Traversal.{Letter, down, up, first, second, opens}
use Rattle.orbits.specs.Stack.{Balanced}
use Rattle.words.specs.Word.{closes, head}
use Rattle.words.specs.Brackets.{tree_word, chord_word, tree_stack, chord_stack}
use Rattle.words.specs.Entered.{is_down}

unfoldable pub opened : (ℕ → Letter) → ℕ → ℕ
opened ℓ i = count (λ j. opens (ℓ j)) i

unfoldable pub vertex_count : (ℕ → Letter) → ℕ → ℕ
vertex_count ℓ i = suc (count (λ j. is_down (ℓ j)) i)

-- the vertex that was entered at the position on top; the root where there is none
abbrev pub vertex_top : (ℕ → Letter) → List ℕ → ℕ
vertex_top ℓ [] = 0
vertex_top ℓ (a ∷ s) = vertex_count ℓ a

unfoldable pub vertex_no : (ℕ → Letter) → ℕ → ℕ
vertex_no ℓ i = vertex_top ℓ (tree_stack ℓ i)

abbrev pub below_of : (ℕ → Letter) → List ℕ → List ℕ
below_of ℓ [] = []
below_of ℓ (a ∷ s) = vertex_top ℓ s ∷ below_of ℓ s

-- edge e has the darts 2e, where it opens, and 2e + 1
abbrev pub dart_by : (ℕ → Letter) → ℕ → Letter → ℕ
dart_by ℓ i down = 2 * opened ℓ i
dart_by ℓ i up = 2 * head (map (opened ℓ) (tree_stack ℓ i)) + 1
dart_by ℓ i first = 2 * opened ℓ i
dart_by ℓ i second = 2 * head (map (opened ℓ) (chord_stack ℓ i)) + 1

unfoldable pub dart_no : (ℕ → Letter) → ℕ → ℕ
dart_no ℓ i = dart_by ℓ i (ℓ i)

pub record Balance (ℓ : ℕ → Letter) (N : ℕ) : Type 0 where
  pub trees : Balanced (tree_word ℓ) N
  pub chords : Balanced (chord_word ℓ) N

abbrev pub Closes : Bool → (ℕ → Letter) → ℕ → Type 0
Closes loops ℓ N =
    (i : ℕ) → i < N → ℓ i ≡ second → (a : ℕ) (s : List ℕ) → chord_stack ℓ i ≡ a ∷ s → closes loops (vertex_no ℓ i) (vertex_no ℓ a) ≡ true
