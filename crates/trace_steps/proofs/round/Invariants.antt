use Rattle.std.proofs.Common.{length}
use Rattle.model.specs.Map.{next}
use Rattle.trace_steps.proofs.Rounds.{Around, steps_to}
use Rattle.trace_steps.proofs.round.Given as goal

abbrev pub invariant-loop-x : goal.invariant-loop-x
invariant-loop-x l = Around l.order l.o l.mark l.initial.w l.w l.x

abbrev pub decreases-loop-x : goal.decreases-loop-x
decreases-loop-x l = steps_to (next l.order) l.o (length l.order) l.x
