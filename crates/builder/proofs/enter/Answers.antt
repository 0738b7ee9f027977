use Rattle.builder.proofs.Steps.{entering}
use Rattle.builder.proofs.enter.Goals as goal

pub returns : goal.returns
returns c = entering _ _ _ _ c.requires.0 c.requires.1
