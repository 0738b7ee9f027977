use Rattle.std.proofs.Common.{◌*◌, refl, add-one, arith}
use Rattle.model.specs.Traversal.{down, first}
use Rattle.builder.proofs.Moves.{moved}
use Rattle.letter_steps.proofs.Digits.{letter_down, letter_first}
use Rattle.letter_steps.proofs.Moves.{goes, full_begin}
use Rattle.letter_steps.proofs.begin.Goals as goal
use Rattle.letter_steps.proofs.begin.Goals.{then-other-eq0, else-other-eq0}

pub returns-then-e-m : goal.returns-then-e-m
returns-then-e-m c = full_begin _ _ _ _ _ (omega arith) _ c.requires.1

pub returns : goal.returns
returns c =
    elim c.if-other-eq0.branch [
      | then-other-eq0 u ↦
          rw (letter_down (2 * c.args.other) (omega arith), u.t-is, u.w-is)
          (goes _ _ _ _ _ _ _ _ (moved _ _ _ _ c.requires.0 down _ _ _ _ (omega arith) refl (omega arith) (add-one _) u.enter-t.ensures))
      | else-other-eq0 v ↦
          rw (letter_first (2 * c.args.other) (omega arith), v.t-is, v.w-is)
          (goes _ _ _ _ _ _ _ _ (moved _ _ _ _ c.requires.0 first _ _ _ _ (omega arith) refl (omega arith) (add-one _) v.back-t.ensures))
    ]
