use Rattle.contour.proofs.Rest.{Walking}
use Rattle.contour.proofs.walk.Given as goal

abbrev pub invariant-loop-i : goal.invariant-loop-i
invariant-loop-i l = Walking l.order l.root l.d l.i l.w
