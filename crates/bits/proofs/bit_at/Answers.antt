use Rattle.bits.proofs.Places.{bit_read}
use Rattle.bits.proofs.bit_at.Goals as goal

pub returns : goal.returns
returns c = bit_read _ _ c.requires
