use Rattle.std.proofs.Common.{◌≡◌, ◌-◌, ◌≤◌, length, drop}
use Rattle.records.specs.Count.{count_of}
use Rattle.records.proofs.Turn.{plus}
use Rattle.records.proofs.count.Given as goal

abbrev pub invariant-loop-at : goal.invariant-loop-at
invariant-loop-at l = (l.at ≤ length l.bytes) × (l.n ≤ l.at) × (plus l.n (count_of (drop l.at l.bytes)) ≡ count_of l.bytes)

abbrev pub decreases-loop-at : goal.decreases-loop-at
decreases-loop-at l = length l.bytes - l.at
