use Rattle.std.proofs.Common.{◌≡◌}
use Rattle.standard_test.specs.Entries.{standard_entry, Alike}
use Rattle.standard_test.proofs.last_entries.Given as goal

abbrev pub invariant-loop-b : goal.invariant-loop-b
invariant-loop-b l = l.differ ≡ 0 → Alike standard_entry 224 l.b l.inverse
