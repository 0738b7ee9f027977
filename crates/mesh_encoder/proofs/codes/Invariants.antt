use Rattle.mesh_encoder.proofs.Coding.{Coding}
use Rattle.mesh_encoder.proofs.codes.Given as goal

abbrev pub invariant-loop-i : goal.invariant-loop-i
invariant-loop-i l = Coding l.n l.count l.initial.w l.i l.s l.w
