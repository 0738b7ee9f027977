use Rattle.builder.proofs.Steps.{closing}
use Rattle.builder.proofs.close.Goals as goal

pub returns : goal.returns
returns c = closing _ _ _ _ c.requires.0 c.requires.1
