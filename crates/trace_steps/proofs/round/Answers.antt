use Rattle.std.proofs.Common.{arith}
use Rattle.model.specs.Map.{next}
use Rattle.trace_steps.proofs.Grounds.{few}
use Rattle.trace_steps.proofs.Rounds.{around_start, around_size, around_falls, around_step, around_end}
use Rattle.trace_steps.proofs.round.Goals as goal

pub loop-x-init : goal.loop-x-init
unfolding next
loop-x-init c = let p = c.requires in around_start p.0 p.1 p.2 p.3

pub loop-x-smaller : goal.loop-x-smaller
unfolding next
loop-x-smaller c = let p = c.requires in around_falls p.0 p.1 p.2 p.3 c.loop-x.invariant c.loop-x-test.true

pub loop-x-preserved : goal.loop-x-preserved
unfolding next
loop-x-preserved c = let p = c.requires in around_step p.0 p.1 p.2 p.3 c.loop-x.invariant c.loop-x-test.true

pub returns : goal.returns
returns c = let p = c.requires in around_end p.0 p.1 p.2 p.3 c.loop-x.invariant c.loop-x-test.false
