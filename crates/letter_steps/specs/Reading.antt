-- Letters read: what they come to. m is the number of edges; w and s are the work area and the state before the letters ls, where e edges have begun.
--
--   Read                     what reading ls hands back, by cases
use Rattle.std.specs.Prelude.{ℕ, ◌≡◌, false, Option, Some, None, List, [], ◌++◌}
use Rattle.model.specs.Traversal.{Letter}
use Rattle.builder.specs.declared.State.{State}
use Rattle.builder.specs.Moves.{goes_on, Left, Moved}

-- none: no word of 2m letters goes on well with ls
unfoldable pub Read : List Letter → ℕ → List ℕ → State → ℕ → Option (State × ℕ) → List ℕ → Type 0
Read ls m w s e (Some r) w' = Moved ls [] m w s e r.0 r.1 w'
Read ls m w s e None w' = (v : List Letter) → Left m s e (ls ++ v) → goes_on m w s (ls ++ v) ≡ false
