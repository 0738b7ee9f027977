use Rattle.letter_decoder.proofs.Digits.{pair_read}
use Rattle.letter_decoder.proofs.half.Goals as goal

pub returns : goal.returns
returns c = pair_read c.args.payload.now c.args.i c.requires
