use Rattle.std.proofs.Common.{sym, arith}
use Rattle.model.specs.Record.{pack}
use Rattle.work.proofs.Regions.{placed_none}
use Rattle.letter_packer.proofs.Digits.{full_more}
use Rattle.letter_packer.proofs.put_full.Goals as goal

pub loop-i-init : goal.loop-i-init
unfolding pack
loop-i-init c = sym (placed_none _ _)

pub loop-i-preserved : goal.loop-i-preserved
loop-i-preserved c = full_more _ _ _ _ c.loop-i.i _ _ (omega (arith, c.requires)) c.four-byte.ensures.0 c.loop-i.invariant
