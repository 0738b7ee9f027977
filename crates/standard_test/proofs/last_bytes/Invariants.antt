use Rattle.std.proofs.Common.{◌≡◌}
use Rattle.standard_test.specs.Entries.{Alike}
use Rattle.standard_test.proofs.last_bytes.Given as goal

abbrev pub invariant-loop-v : goal.invariant-loop-v
invariant-loop-v l = l.differ ≡ 0 → Alike (λ i. i) 224 l.v l.bytes
