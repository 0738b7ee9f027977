use Rattle.builder.specs.Steps.{parts_of}
use Rattle.builder.proofs.Steps.{top_small}
use Rattle.builder.proofs.last_tree.Goals as goal

pub returns : goal.returns
unfolding parts_of
returns c = (c.top.ensures, rw c.top.ensures (top_small _ _ _ _ c.requires.1 c.requires.0.trees_in))
