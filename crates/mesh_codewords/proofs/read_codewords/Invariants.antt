use Rattle.packing.specs.Unpack.{bits}
use Rattle.mesh_codewords.specs.Reading.{Reading}
use Rattle.mesh_codewords.proofs.read_codewords.Given as goal

abbrev pub invariant-loop-i : goal.invariant-loop-i
invariant-loop-i l = Reading (bits l.payload) l.n l.at l.initial.w l.w l.c l.l l.i
