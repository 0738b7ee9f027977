-- A word as brackets, position by position: ℓ i is the letter at position i. A part of the edges is a test of letters, `is_tree` or `is_chord`.
--
--   letter w i            the letter of the word w at position i
--   bracket part l        a letter of the part opens an edge or closes one; the others are flat
--   tree_kind, chord_kind   a letter as a bracket: of a tree edge, of another edge
--   tree_word, chord_word ℓ the word as brackets
--   tree_stack, chord_stack ℓ i   the positions before i where edges are open, the last opened first
use Rattle.std.specs.Prelude.{ℕ, Bool, cond, List, get_or}
use Rattle.model.specs.Traversal.{Letter, second, opens}
use Rattle.orbits.specs.Stack.{Kind, flat, open', close, stack}
use Rattle.words.specs.Toured.{is_tree, is_chord}

abbrev pub letter : List Letter → ℕ → Letter
letter w i = get_or w i second

abbrev pub bracket : (Letter → Bool) → Letter → Kind
bracket part l = cond (part l) (cond (opens l) open' close) flat

abbrev pub tree_kind : Letter → Kind
tree_kind l = bracket is_tree l

abbrev pub chord_kind : Letter → Kind
chord_kind l = bracket is_chord l

abbrev pub tree_word : (ℕ → Letter) → ℕ → Kind
tree_word ℓ i = tree_kind (ℓ i)

abbrev pub chord_word : (ℕ → Letter) → ℕ → Kind
chord_word ℓ i = chord_kind (ℓ i)

abbrev pub tree_stack : (ℕ → Letter) → ℕ → List ℕ
tree_stack ℓ i = stack (tree_word ℓ) i

abbrev pub chord_stack : (ℕ → Letter) → ℕ → List ℕ
chord_stack ℓ i = stack (chord_word ℓ) i
