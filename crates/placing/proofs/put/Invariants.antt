use Rattle.std.proofs.Common.{◌≡◌}
use lib.ListN.{length}
use lib.Seq.{paste}
use Rattle.placing.proofs.put.Given as goal

abbrev pub invariant-loop-i : goal.invariant-loop-i
invariant-loop-i l = (l.shelf ≡ paste l.initial.shelf l.at l.«record» l.i) × (length l.shelf ≡ length l.initial.shelf)
