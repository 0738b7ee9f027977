use Rattle.decoder_ends.proofs.Runs.{Closing}
use Rattle.decoder_ends.proofs.close_all.Given as goal

abbrev pub invariant-loop-end : goal.invariant-loop-end
invariant-loop-end l = Closing l.m l.fn.w l.fn.s l.fn.label l.w l.end.state l.end.label

abbrev pub decreases-loop-end : goal.decreases-loop-end
decreases-loop-end l = l.end.state.opens
