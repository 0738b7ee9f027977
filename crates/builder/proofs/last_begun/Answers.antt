use Rattle.builder.specs.Steps.{parts_of}
use Rattle.builder.proofs.last_begun.Goals as goal

pub returns : goal.returns
unfolding parts_of
returns c = c.top.ensures
