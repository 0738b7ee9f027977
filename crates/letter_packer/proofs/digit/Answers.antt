use Rattle.std.proofs.Common.{arith}
use Rattle.letter_packer.proofs.Digits.{entry}
use Rattle.letter_packer.proofs.digit.Goals as goal

pub overflow_sub-result : goal.overflow_sub-result
overflow_sub-result c = let p = c.requires in let e = entry _ _ p.1 p.2 _ p.3 in omega arith

pub returns : goal.returns
returns c = let p = c.requires in let e = entry _ _ p.1 p.2 _ p.3 in (omega arith, omega arith)
