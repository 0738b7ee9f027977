use Rattle.std.proofs.Common.{◌≡◌, length, drop}
use Rattle.model.specs.Numbers.{is_permutation}
use Rattle.packing.specs.Unpack.{bits}
use Rattle.permutation.proofs.Marking.{run}
use Rattle.permutation.proofs.marked.Given as goal

abbrev pub invariant-loop-x : goal.invariant-loop-x
invariant-loop-x l = run (length l.order) (drop l.x-index l.order) (bits l.marks) ≡ is_permutation l.order
