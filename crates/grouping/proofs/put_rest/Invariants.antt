use Rattle.std.proofs.Common.{◌≡◌, take}
use Rattle.model.specs.Record.{pack}
use Rattle.grouping.proofs.put_rest.Given as goal

abbrev pub invariant-loop-j : goal.invariant-loop-j
invariant-loop-j g l = take l.j l.out ≡ pack g.row.BASE g.row.WIDTH l.j l.ds
