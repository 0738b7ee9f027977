-- What is put at each letter: its code for family 4, else tree bits and labels. n is the number of darts, i the position, t the number of tree bits before it.
--
--   follows w x              1 where the mark of x's opposite says that x, if it comes next, is met as second; else 0
--   down_put, first_put n family i t w    an edge begins
--   up_put n family i t f leaf second w  tree edge f ends, at a bare leaf or not; second is 1 where that letter comes next
--   second_put n family i f second w     another edge f ends
use Rattle.std.specs.Prelude.{ℕ, ◌+◌, ◌*◌, ◌/◌, Bool, cond, List, eqb, get_or, set}
use Rattle.model.specs.Map.{opposite}
use Rattle.model.specs.LabelledTree.{star}
use Rattle.work.specs.Map.{LETTERS, BITS, LABELS}

unfoldable pub follows : List ℕ → ℕ → ℕ
follows w x = cond (eqb (get_or w (opposite x) 0 / 8192) 1) 1 0

unfoldable pub down_put : ℕ → ℕ → ℕ → ℕ → List ℕ → List ℕ
down_put n family i t w = cond (eqb family 4) (set w (LETTERS * n + i) 1) (set w (BITS * n + t) 1)

unfoldable pub first_put : ℕ → ℕ → ℕ → ℕ → List ℕ → List ℕ
first_put n family i t w = cond (eqb family 4) (set w (LETTERS * n + i) 3) (set (set w (BITS * n + t) 1) (BITS * n + t + 1) 0)

unfoldable pub up_put : ℕ → ℕ → ℕ → ℕ → ℕ → Bool → ℕ → List ℕ → List ℕ
up_put n family i t f leaf second w =
    cond (eqb family 4) (set w (LETTERS * n + i) 2) (set (set w (LABELS * n + f) (cond leaf star second)) (BITS * n + t) (cond leaf second 0))

unfoldable pub second_put : ℕ → ℕ → ℕ → ℕ → ℕ → List ℕ → List ℕ
second_put n family i f second w = cond (eqb family 4) (set w (LETTERS * n + i) 4) (set w (LABELS * n + f) second)
