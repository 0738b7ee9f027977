use Rattle.numbering.specs.Numbering.{Numbering}
use Rattle.numbering.proofs.walk.Given as goal

abbrev pub invariant-loop-i : goal.invariant-loop-i
invariant-loop-i l = Numbering l.order l.root l.i l.w l.s
