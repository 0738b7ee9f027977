use Rattle.decoder.proofs.Stretches.{stretching_start, stretching_asks, stretching_on, stretching_less, stretching_end, stretching_stuck}
use Rattle.decoder.proofs.stretch.Goals as goal

pub loop-turn-init : goal.loop-turn-init
loop-turn-init c =
    let e = c.window_end-end.ensures in let d = c.filled-c.ensures in
    stretching_start _ _ _ _ _ _ c.args.c c.filled-c.result d.0 d.1 c.requires.1 d.2 e.0 e.1 e.2

pub step-requires : goal.step-requires
step-requires c =
    let a = stretching_asks _ _ _ _ _ _ _ _ _ _ _ c.loop-turn.invariant c.requires.0 in record { labelled = a.0; sees = a.1 }

pub returns-in_err-turn : goal.returns-in_err-turn
returns-in_err-turn c =
    rw c.from_residual.ensures (stretching_stuck _ _ _ _ _ _ _ _ _ _ _ c.loop-turn.invariant c.step.new.w c.in_err-turn.ensures)

pub returns-then-end-turn : goal.returns-then-end-turn
returns-then-end-turn c = stretching_end _ _ _ _ _ _ _ _ _ _ _ c.loop-turn.invariant _ _ c.in_ok-turn.ensures

pub loop-turn-smaller : goal.loop-turn-smaller
loop-turn-smaller c = stretching_less _ _ _ _ _ _ _ _ _ _ _ c.loop-turn.invariant _ _ c.in_ok-turn.ensures

pub loop-turn-preserved : goal.loop-turn-preserved
loop-turn-preserved c = stretching_on _ _ _ _ _ _ _ _ _ _ _ c.loop-turn.invariant _ _ c.in_ok-turn.ensures c.if-end-turn.false
