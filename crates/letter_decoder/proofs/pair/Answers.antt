use Rattle.std.proofs.Common.{◌≡◌, ◌+◌, ◌-◌, ◌*◌, ◌/◌, ◌%◌, ◌∷◌, arith}
use Rattle.packing.specs.Letters.{digit_letter}
use Rattle.builder.proofs.Moves.{moved_none, moved_end}
use Rattle.letter_steps.proofs.Moves.{goes}
use Rattle.letter_decoder.specs.Pairs.{letters_of}
use Rattle.letter_decoder.proofs.Digits.{letters_left, letters_none}
use Rattle.letter_decoder.proofs.Runs.{goes_on_lem, stuck_on}
use Rattle.letter_decoder.proofs.pair.Goals as goal
use Rattle.letter_decoder.proofs.pair.Goals.{In-loop}

-- the letter that is read is the next
next : (c : In-loop) → letters_of (2 - c.loop.counter) c.loop.rest ≡ digit_letter (c.loop.rest / 64) ∷ letters_of (2 - (c.loop.counter + 1)) (c.loop.rest * 4 % 256)
next c = letters_left _ _ _ (omega arith)

pub loop-init : goal.loop-init
loop-init c = moved_none _ _ _ _ _ c.requires

pub step-requires : goal.step-requires
step-requires c = (c.loop.invariant.fits, omega arith)

pub returns-in_err-t : goal.returns-in_err-t
returns-in_err-t c =
    rw c.from_residual.ensures (stuck_on _ _ _ _ _ _ _ _ _ c.loop.invariant _ _ _ (next (goal.at.returns-in_err-t c).In-loop) c.in_err-t.ensures)

pub loop-preserved : goal.loop-preserved
loop-preserved c = goes_on_lem _ _ _ _ _ _ _ _ _ c.loop.invariant _ _ _ (next (goal.at.loop-preserved c).In-loop) _ _ c.in_ok-t.ensures

pub returns : goal.returns
returns c = goes _ _ _ _ _ _ _ _ (moved_end _ _ _ _ _ _ _ _ _ (letters_none _ _ (omega arith)) c.loop.invariant)
