use Rattle.std.proofs.Common.{arith}
use Rattle.letter_steps.proofs.Digits.{letter_up, letter_second}
use Rattle.letter_steps.proofs.step.Goals as goal

pub returns-then-other-eq0 : goal.returns-then-other-eq0
returns-then-other-eq0 c = rw (letter_up c.args.x (omega arith)) c.up.ensures

pub returns-else-other-eq0 : goal.returns-else-other-eq0
returns-else-other-eq0 c = rw (letter_second c.args.x (omega arith)) c.second.ensures
