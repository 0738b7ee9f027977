use Rattle.std.proofs.Common.{arith, length-set}
use Rattle.trace_steps.proofs.Grounds.{few}
use Rattle.trace_steps.proofs.go_first.Goals as goal

pub put_first-requires : goal.put_first-requires
put_first-requires c = (few c.requires.0, simp length-set (omega arith), omega arith, omega arith)
