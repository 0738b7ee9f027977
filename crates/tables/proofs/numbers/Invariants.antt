use Rattle.std.proofs.Common.{◌≡◌, length}
use Rattle.tables.proofs.Filling.{Filled}
use Rattle.tables.proofs.numbers.Given as goal

abbrev pub invariant-loop-v : goal.invariant-loop-v
invariant-loop-v l = (length l.bytes ≡ 243) × Filled (λ i. i) l.v l.bytes
