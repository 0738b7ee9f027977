use Rattle.std.proofs.Common.{sym, rules}
use Rattle.model.specs.Calls.{zeros}
use Rattle.measuring.proofs.measure.Goals as goal

pub returns : goal.returns
unfolding zeros
returns c =
    let m = c.made-r in
    record {
      answered = m.ensures.answered;
      filled = m.ensures.filled;
      cleared = let kept = sym m.ensures.kept in rw kept (search rules);
    }
