use Rattle.std.proofs.Common.{◌≤◌}
use Rattle.counts.proofs.counted.Given as goal

abbrev pub invariant-loop-x : goal.invariant-loop-x
invariant-loop-x l = l.n ≤ l.x
