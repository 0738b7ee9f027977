use Rattle.std.proofs.Common.{◌≡◌, ◌++◌, take, drop}
use Rattle.work.proofs.copy_front.Given as goal

abbrev pub invariant-loop-i : goal.invariant-loop-i
invariant-loop-i l = l.out ≡ take l.i l.w ++ drop l.i l.initial.out
