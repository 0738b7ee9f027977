use Rattle.dual_copy.proofs.Pairs.{Copied}
use Rattle.dual_copy.proofs.copy.Given as goal

abbrev pub invariant-loop-e : goal.invariant-loop-e
invariant-loop-e l = Copied l.w l.initial.out l.e l.out
