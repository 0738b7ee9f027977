use Rattle.std.proofs.Common.{refl}
use Rattle.node_ends.proofs.Turns.{turned_from}
use Rattle.mesh_decoder.proofs.Entering.{tips_stand, tips_turn, tips_kept}
use Rattle.mesh_decoder.proofs.tips.Goals as goal

pub climb-requires : goal.climb-requires
climb-requires c = tips_stand _ _ _ _ c.requires

pub returns : goal.returns
returns c = turned_from c.climb.ensures (tips_turn _ _ _ _ c.requires refl) (tips_kept _ _ _ _ c.requires)
