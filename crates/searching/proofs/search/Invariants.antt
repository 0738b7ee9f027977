use Rattle.std.proofs.Common.{◌≡◌, ◌-◌, ◌≤◌, length, drop}
use Rattle.searching.specs.Search.{search_of}
use Rattle.searching.proofs.Turn.{further}
use Rattle.searching.proofs.search.Given as goal

abbrev pub invariant-loop-at : goal.invariant-loop-at
invariant-loop-at l =
    (l.at ≤ length l.bytes) × (l.n ≤ l.at) × (l.compared ≤ l.n)
    × (further l.n l.compared (search_of l.fn.«record» (drop l.at l.bytes)) ≡ search_of l.fn.«record» l.bytes)

abbrev pub decreases-loop-at : goal.decreases-loop-at
decreases-loop-at l = length l.bytes - l.at
