use Rattle.std.proofs.Common.{drop}
use Rattle.packing.specs.Unpack.{groups}
use Rattle.packing.specs.Groups.{values_of}
use Rattle.mesh_unpacker.proofs.Digits.{Adding}
use Rattle.mesh_unpacker.proofs.add_digits.Given as goal

abbrev pub invariant-loop-i : goal.invariant-loop-i
invariant-loop-i l = Adding (groups (drop l.from (values_of l.inverse l.payload))) l.n l.at l.initial.w l.w l.j l.i
