use Rattle.decoder_ends.proofs.Runs.{closing_fits, closing_less, closing_on, closing_end, closing_stuck}
use Rattle.decoder_ends.proofs.close_all.Goals as goal

pub close_last-requires : goal.close_last-requires
close_last-requires c = closing_fits _ _ _ _ _ _ _ c.loop-end.invariant c.requires.0

pub returns-in_err-end : goal.returns-in_err-end
returns-in_err-end c =
    rw c.from_residual.ensures (closing_stuck _ _ _ _ _ _ _ c.loop-end.invariant c.loop-end-test.true c.close_last.new.w c.in_err-end.ensures)

pub loop-end-smaller : goal.loop-end-smaller
loop-end-smaller c = closing_less _ _ _ _ _ _ _ c.loop-end.invariant c.loop-end-test.true _ _ c.in_ok-end.ensures c.requires.0

pub loop-end-preserved : goal.loop-end-preserved
loop-end-preserved c = closing_on _ _ _ _ _ _ _ c.loop-end.invariant c.loop-end-test.true _ _ c.in_ok-end.ensures c.requires.0

pub returns : goal.returns
returns c = closing_end _ _ _ _ _ _ _ c.loop-end.invariant c.loop-end-test.false
