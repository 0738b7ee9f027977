use Rattle.mesh_tracing.proofs.Turns.{Going}
use Rattle.mesh_tracing.proofs.climb.Given as goal

abbrev pub invariant-loop-t : goal.invariant-loop-t
invariant-loop-t l = Going l.order l.initial.w l.w l.fn.s l.t

abbrev pub decreases-loop-t : goal.decreases-loop-t
decreases-loop-t l = l.t.halves
