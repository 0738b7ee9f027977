use Rattle.std.proofs.Common.{refl, arith, length-set}
use Rattle.model.specs.Map.{next}
use Rattle.trace_steps.proofs.Grounds.{few}
use Rattle.trace_steps.proofs.go_down.Goals as goal

pub put_down-requires : goal.put_down-requires
put_down-requires c = (few c.requires.0, simp length-set (omega arith), omega arith, omega arith)

pub returns : goal.returns
unfolding next
returns c = record { stands = refl; circled = c.round.new.w; round = c.round.ensures; area = c.put_down.ensures }
