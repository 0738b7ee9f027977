use Rattle.std.proofs.Common.{◌-◌, ◌<◌, ◌≢◌, length}
use Rattle.following.proofs.Area.{Following}
use Rattle.following.proofs.follow.Given as goal

abbrev pub invariant-loop-x : goal.invariant-loop-x
invariant-loop-x g l = record {
  dart : l.x < length l.order;
  part : Following (g.S.Steps.of l.order) (length l.order) l.a l.start l.fn.w l.w l.x l.steps;
  onward : 0 < l.steps → l.x ≢ l.start;
}

abbrev pub decreases-loop-x : goal.decreases-loop-x
decreases-loop-x g l = length l.order - l.steps
