use Rattle.builder.specs.Steps.{parts_of}
use Rattle.builder.proofs.Steps.{rising}
use Rattle.builder.proofs.rise.Goals as goal

pub returns : goal.returns
unfolding parts_of
returns c = rising _ _ _ _ c.requires.0 c.requires.1 _ (rw c.top-here.ensures)
