use Rattle.mesh_decoder.proofs.Climbing.{Climbed}
use Rattle.mesh_decoder.proofs.climb.Given as goal

abbrev pub invariant-loop-t : goal.invariant-loop-t
invariant-loop-t l = Climbed l.m l.fn.w l.fn.s l.w l.t

abbrev pub decreases-loop-t : goal.decreases-loop-t
decreases-loop-t l = l.t.depth
