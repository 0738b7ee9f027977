use Rattle.mesh_decoder.proofs.Entering.{node_turn}
use Rattle.mesh_decoder.proofs.node.Goals as goal

pub returns : goal.returns
returns c = node_turn _ _ _ _ c.requires.0 c.requires.1 c.requires.2
