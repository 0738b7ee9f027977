use Rattle.std.proofs.Common.{arith}
use Rattle.bits.proofs.Places.{bit_fits, bit_put}
use Rattle.bits.proofs.put_bit.Goals as goal

pub overflow_add-s : goal.overflow_add-s
overflow_add-s c = let p = c.requires in record { fits = bit_fits _ _ p.0 _ p.1 (omega arith) p.2 }

pub returns : goal.returns
returns c = let p = c.requires in bit_put _ _ p.0 _ p.1 (omega arith) p.2
