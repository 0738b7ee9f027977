-- Where a traversal entered the vertex at which it stands.
--
--   is_down l           the letter is down
--   downs p            how many downs there are
--   entered_at p i      the position just after the last down that is open at position i; 0, the root's, if none is
use Rattle.std.specs.Prelude.{ℕ, Bool, true, false}
use Rattle.model.specs.Numbers.{count}
use Rattle.model.specs.Map.{Plan, darts}
use Rattle.model.specs.Traversal.{Letter, down, up, first, second}
use Rattle.orbits.specs.Stack.{top}
use Rattle.words.specs.Toured.{letter_of}
use Rattle.words.specs.Brackets.{tree_stack}

abbrev pub is_down : Letter → Bool
is_down down = true
is_down up = false
is_down first = false
is_down second = false

unfoldable pub downs : Plan → ℕ
downs p = count (λ i. is_down (letter_of p i)) (darts p)

unfoldable pub entered_at : Plan → ℕ → ℕ
entered_at p i = top (tree_stack (letter_of p) i)
