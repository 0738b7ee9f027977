use Rattle.std.proofs.Common.{arith}
use Rattle.letter_packer.proofs.Digits.{two_is}
use Rattle.letter_packer.proofs.two.Goals as goal

pub returns : goal.returns
returns c = let p = c.requires in let e = two_is _ _ p.1 p.2 _ p.3 in (omega arith, omega arith)
