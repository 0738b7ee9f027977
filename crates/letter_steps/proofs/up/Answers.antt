use Rattle.std.proofs.Common.{refl, arith}
use Rattle.model.specs.Traversal.{up}
use Rattle.builder.proofs.Moves.{moved}
use Rattle.letter_steps.proofs.Moves.{goes, root_up}
use Rattle.letter_steps.proofs.up.Goals as goal

pub returns-then-s-eq0 : goal.returns-then-s-eq0
returns-then-s-eq0 c = root_up _ _ _ _ _ c.if-s-eq0.true

pub returns : goal.returns
returns c =
    let y = c.last_tree-edge.ensures in
    goes _ _ _ _ _ _ _ _ (moved _ _ _ _ c.requires up _ _ _ _ (omega arith) y.0 y.1 refl c.rise.ensures)
