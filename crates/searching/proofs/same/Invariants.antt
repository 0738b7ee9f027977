use Rattle.std.proofs.Common.{◌≡◌, true, drop}
use Rattle.model.specs.Shelf as shelf
use Rattle.searching.proofs.same.Given as goal

abbrev pub invariant-loop-i : goal.invariant-loop-i
invariant-loop-i l = shelf.same (drop l.i l.a) (drop l.i l.b) ≡ true
