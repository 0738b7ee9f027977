use Rattle.std.proofs.Common.{◌-◌}
use Rattle.node_ends.specs.Steps.{type_count}
use Rattle.mesh_decoder.proofs.Spelling.{Spelling}
use Rattle.mesh_decoder.proofs.spell.Given as goal

abbrev pub invariant-loop-s : goal.invariant-loop-s
invariant-loop-s l = Spelling l.m l.fn.w l.w l.s

abbrev pub decreases-loop-s : goal.decreases-loop-s
decreases-loop-s l = type_count l.m - l.s.read
