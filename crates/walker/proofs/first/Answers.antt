use Rattle.shelf.proofs.Walking.{fetched_part}
use Rattle.walker.proofs.first.Goals as goal

pub returns : goal.returns
returns c = let e = c.in_ok-begin.ensures in fetched_part _ _ _ _ _ _ _ e.2 (e.0, e.1) c.here.ensures
