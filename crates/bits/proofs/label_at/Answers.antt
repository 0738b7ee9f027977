use Rattle.std.proofs.Common.{◌∙◌}
use Rattle.bits.proofs.Places.{label_read}
use Rattle.bits.proofs.label_at.Goals as goal

pub returns : goal.returns
returns c = c.label_in.ensures ∙ label_read c.args.inverse.now c.args.s.now _ _ c.requires.0 c.requires.1
