use Rattle.node_ends.specs.Steps.{Stands}
use Rattle.mesh_decoder.proofs.Climbing.{climbed_on, climbed_out, stands_any}
use Rattle.mesh_decoder.proofs.climb.Goals as goal

pub returns-in_err-outcome : goal.returns-in_err-outcome
unfolding Stands
returns-in_err-outcome c =
    rw c.from_residual.ensures (climbed_out _ _ _ _ _ c.loop-t.invariant _ _ 0 _ c.in_err-outcome.ensures (λ x. x))

pub loop-t-smaller : goal.loop-t-smaller
loop-t-smaller c = (climbed_on _ _ _ _ _ c.loop-t.invariant _ _ c.in-Climbs.u (rw c.in-Climbs.is at c.in_ok-outcome.ensures)).1

pub loop-t-preserved : goal.loop-t-preserved
loop-t-preserved c = (climbed_on _ _ _ _ _ c.loop-t.invariant _ _ c.in-Climbs.u (rw c.in-Climbs.is at c.in_ok-outcome.ensures)).0

pub returns-in_default : goal.returns-in_default
returns-in_default c =
    climbed_out _ _ _ _ _ c.loop-t.invariant _ _ 0 _ c.in_ok-outcome.ensures (stands_any _ _ _ _ _ _ c.in_default.not-Climbs)
