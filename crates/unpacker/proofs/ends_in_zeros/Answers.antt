use Rattle.std.proofs.Common.{◌≡◌, arith}
use Rattle.packing.specs.Unpack.{digits_of}
use Rattle.unpacker.proofs.Fill.{zero_digits}
use Rattle.unpacker.proofs.ends_in_zeros.Goals as goal

pub returns-in-1 : goal.returns-in-1
unfolding digits_of
returns-in-1 c = rw c.in-1.is (zero_digits 1 c.args.group)

pub returns-in-2 : goal.returns-in-2
unfolding digits_of
returns-in-2 c = rw c.in-2.is (zero_digits 2 c.args.group)

pub returns-in-3 : goal.returns-in-3
unfolding digits_of
returns-in-3 c = rw c.in-3.is (zero_digits 3 c.args.group)

pub returns-in_default : goal.returns-in_default
unfolding digits_of
returns-in_default c = let e : c.args.count ≡ 4 = omega arith in rw e (zero_digits 4 c.args.group)
