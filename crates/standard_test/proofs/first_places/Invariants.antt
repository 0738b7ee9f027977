use Rattle.std.proofs.Common.{◌≡◌}
use Rattle.standard_test.specs.Entries.{Alike}
use Rattle.standard_test.proofs.first_places.Given as goal

abbrev pub invariant-loop-v : goal.invariant-loop-v
invariant-loop-v l = l.differ ≡ 0 → Alike (λ i. i) 0 l.v l.bytes × Alike (λ i. i) 0 l.v l.inverse
