use Rattle.std.proofs.Common.{◌≡◌, take}
use Rattle.model.specs.Record.{pack}
use Rattle.grouping.proofs.put_full.Given as goal

abbrev pub invariant-loop-i : goal.invariant-loop-i
invariant-loop-i g l = take l.i l.out ≡ pack g.row.BASE g.row.WIDTH l.i l.ds
