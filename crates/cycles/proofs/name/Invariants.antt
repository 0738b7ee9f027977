use Rattle.std.proofs.Common.{length}
use Rattle.cycles.proofs.Turns.{Half}
use Rattle.cycles.proofs.name.Given as goal

abbrev pub invariant-loop-d : goal.invariant-loop-d
invariant-loop-d g l = Half (g.S.Steps.of l.order) (length l.order) l.a l.b l.initial.w l.d l.count l.w
