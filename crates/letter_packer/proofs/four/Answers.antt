use Rattle.std.proofs.Common.{arith}
use Rattle.letter_packer.proofs.Digits.{four_is}
use Rattle.letter_packer.proofs.four.Goals as goal

pub returns : goal.returns
returns c = let p = c.requires in let e = four_is _ _ p.1 p.2 _ p.3 in (omega arith, omega arith)
