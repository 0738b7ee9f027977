use Rattle.std.proofs.Common.{◌-◌, length}
use Rattle.mesh_tracing.proofs.Turns.{Walking}
use Rattle.mesh_tracing.proofs.walk.Given as goal

abbrev pub invariant-loop-t : goal.invariant-loop-t
invariant-loop-t l = Walking l.order l.root l.initial.w l.w l.s

abbrev pub decreases-loop-t : goal.decreases-loop-t
decreases-loop-t l = length l.order - l.s.edges
