use Rattle.std.proofs.Common.{◌-◌, length}
use Rattle.tracing.proofs.Whole.{Walking}
use Rattle.tracing.proofs.walk.Given as goal

abbrev pub invariant-loop-i : goal.invariant-loop-i
invariant-loop-i l = Walking l.family l.order l.root l.initial.w l.w l.s l.i

abbrev pub decreases-loop-i : goal.decreases-loop-i
decreases-loop-i l = length l.order - l.i
