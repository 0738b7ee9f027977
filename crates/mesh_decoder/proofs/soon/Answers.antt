use Rattle.std.proofs.Common.{refl}
use Rattle.mesh_decoder.proofs.Entering.{soon_turn}
use Rattle.mesh_decoder.proofs.soon.Goals as goal

pub returns : goal.returns
returns c = soon_turn _ _ _ _ c.requires refl
