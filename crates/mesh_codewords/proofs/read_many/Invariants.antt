use Rattle.mesh_codewords.proofs.Windows.{Among}
use Rattle.mesh_codewords.proofs.read_many.Given as goal

abbrev pub invariant-loop-i : goal.invariant-loop-i
invariant-loop-i l = Among l.payload l.n l.at l.initial.w l.w l.q l.end l.c l.l l.i
