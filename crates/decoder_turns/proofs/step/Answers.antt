use Rattle.decoder_turns.proofs.Steps.{step_goes}
use Rattle.decoder_turns.proofs.step.Goals as goal

pub returns : goal.returns
returns c = step_goes _ _ _ _ _ _ _ _ c.in_ok-turn.ensures _ _ c.in_ok-end.ensures
