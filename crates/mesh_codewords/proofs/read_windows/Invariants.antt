use Rattle.std.proofs.Common.{◌-◌}
use Rattle.packing.specs.Unpack.{bits}
use Rattle.mesh_codewords.specs.Reading.{Reading}
use Rattle.mesh_codewords.proofs.read_windows.Given as goal

abbrev pub invariant-loop-s : goal.invariant-loop-s
invariant-loop-s l = Reading (bits l.payload) l.n l.at l.initial.w l.w l.s.bits l.s.digits l.s.read

abbrev pub decreases-loop-s : goal.decreases-loop-s
decreases-loop-s l = l.n - l.s.read
