-- What the walk tells.
--
--   Walked               how many darts are met
use Rattle.std.specs.Prelude.{ℕ, ◌≡◌, List, length}
use Rattle.model.specs.Map.{Plan}
use Rattle.model.specs.Traversal.{visits}

pub record Walked (p : Plan) (w : List ℕ) (count : ℕ) (w' : List ℕ) : Type 0 where
  pub counted : count ≡ length (visits p)
  pub kept : length w' ≡ length w
