use Rattle.std.proofs.Common.{refl, arith}
use Rattle.mesh_decoder.proofs.Entering.{none_turn, big_turn}
use Rattle.mesh_decoder.proofs.enter.Goals as goal

pub returns-in_default : goal.returns-in_default
returns-in_default c =
    none_turn _ _ _ _ (record { standing = c.requires.0; more = c.requires.1; next = refl }) (omega arith)

pub returns-in_default-2 : goal.returns-in_default-2
returns-in_default-2 c =
    big_turn _ _ _ _ (record { standing = c.requires.0; more = c.requires.1; next = refl }) (omega arith)
