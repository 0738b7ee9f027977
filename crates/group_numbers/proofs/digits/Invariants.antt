use Rattle.std.proofs.Common.{◌≡◌, ◌-◌, ◌^◌, drop}
use Rattle.model.specs.Record.{digits as digits_of}
use Rattle.group_numbers.proofs.digits.Given as goal

abbrev pub invariant-loop-i : goal.invariant-loop-i
invariant-loop-i g l = (l.x ≡ digits_of g.row.BASE (g.row.WIDTH - l.i) (drop l.i l.ds)) × (l.place ≡ g.row.BASE ^ (g.row.WIDTH - l.i))
