use native.Mathlib.Omega.{arith}
use Rattle.shelf.proofs.Refusals.{count_over, count_part}
use Rattle.shelf.proofs.count.Goals as goal

pub returns-then-used-shelf : goal.returns-then-used-shelf
returns-then-used-shelf c = count_over _ _ (omega arith)

pub returns : goal.returns
returns c = count_part _ _ (omega arith) _ c.count.ensures
