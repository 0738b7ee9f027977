use Rattle.builder.proofs.Steps.{backing}
use Rattle.builder.proofs.back.Goals as goal

pub returns : goal.returns
returns c = backing _ _ _ _ c.requires.0 c.requires.1
