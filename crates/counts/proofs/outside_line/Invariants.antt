use Rattle.std.proofs.Common.{◌*◌, ◌≤◌}
use Rattle.counts.proofs.outside_line.Given as goal

abbrev pub invariant-loop-outside : goal.invariant-loop-outside
invariant-loop-outside g l = l.n ≤ 65536 * l.outside
