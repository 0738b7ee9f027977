use Rattle.std.proofs.Common.{◌≡◌}
use Rattle.tables.proofs.Inverting.{so_far}
use Rattle.tables.proofs.inverted.Given as goal

abbrev pub invariant-loop-v : goal.invariant-loop-v
invariant-loop-v l = l.inverse ≡ so_far l.bytes l.v
