use Rattle.std.proofs.Common.{sym, rules}
use Rattle.model.specs.Calls.{zeros, write_answer, written_output}
use Rattle.writing.proofs.write.Goals as goal

pub returns : goal.returns
unfolding zeros write_answer written_output
returns c =
    let made = c.made-r.ensures in
    record {
      answered = made.answered;
      filled = made.filled;
      cleared = let kept = sym made.kept in rw kept (search rules);
    }
