use Rattle.std.proofs.Common.{arith}
use Rattle.dual_copy.proofs.Pairs.{copied_none, copied_pair, copied_end}
use Rattle.dual_copy.proofs.copy.Goals as goal

pub loop-e-init : goal.loop-e-init
loop-e-init c = copied_none _ _

pub loop-e-preserved : goal.loop-e-preserved
loop-e-preserved c =
    let l = c.loop-e in copied_pair _ _ l.e _ l.invariant (omega (arith, l.invariant.size))

pub returns : goal.returns
returns c = copied_end _ _ _ _ _ c.loop-e.invariant (omega arith) c.requires.1 c.requires.2
