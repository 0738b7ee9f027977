use Rattle.std.proofs.Common.{arith}
use Rattle.node_ends.specs.Steps.{popped}
use Rattle.node_ends.proofs.Turns.{ended, not_ended}
use Rattle.node_ends.proofs.complete.Goals as goal

pub returns-then-s-base : goal.returns-then-s-base
returns-then-s-base c =
    let a = c.args in not_ended a.m a.w.now (popped a.s a.s.put a.s.height) a.base a.s.depth c.if-s-base.true

pub returns : goal.returns
returns c =
    let a = c.args in
    ended a.m a.w.now (popped a.s a.s.put a.s.height) a.base a.s.depth c.requires.0 (omega arith) (omega arith)
