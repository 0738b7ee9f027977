use Rattle.std.proofs.Common.{arith}
use Rattle.contour.proofs.Steps.{here, goes_down, is_noted, comes_up, is_noted_again}
use Rattle.contour.proofs.visit.Goals as goal
use Rattle.contour.proofs.visit.Goals.{in-0+then-w-s-eq0, in-0+else-w-s-eq0, in-1, in_default}

pub returns : goal.returns
returns c =
    let f = here c.args.order.now c.args.w.now c.args.d c.other-o.result c.requires.0 c.requires.1 c.requires.3 c.other-o.ensures in
    elim c.match-w-n.branch [
      | in-0+then-w-s-eq0 w ↦ goes_down f w.in-0.is w.if-w-s-eq0.true w.w-is w.letter-is
      | in-0+else-w-s-eq0 w ↦ is_noted f w.in-0.is w.if-w-s-eq0.false w.w-is w.letter-is
      | in-1 w ↦ comes_up f w.in-1.is w.w-is w.letter-is
      | in_default w ↦ is_noted_again f (λ e. omega arith) (λ e. omega arith) w.w-is w.letter-is
    ]
