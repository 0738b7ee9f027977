use Rattle.std.proofs.Common.{refl, arith}
use Rattle.model.specs.Traversal.{second}
use Rattle.builder.proofs.Moves.{moved}
use Rattle.letter_steps.proofs.Moves.{goes, none_second, low_second}
use Rattle.letter_steps.proofs.second.Goals as goal

pub returns-then-s-eq0 : goal.returns-then-s-eq0
returns-then-s-eq0 c = none_second _ _ _ _ _ c.if-s-eq0.true

pub returns-then-begun-s : goal.returns-then-begun-s
returns-then-begun-s c = let b = c.last_begun-begun.ensures in low_second _ _ _ _ _ (omega arith)

pub returns : goal.returns
returns c =
    let b = c.last_begun-begun.ensures in
    let y = c.last_open-edge.ensures in
    goes _ _ _ _ _ _ _ _ (moved _ _ _ _ c.requires second _ _ _ _ (omega arith, omega arith) y.0 y.1 refl c.close.ensures)
