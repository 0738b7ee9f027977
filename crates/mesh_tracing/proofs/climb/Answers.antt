use Rattle.std.proofs.Common.{Some, ap, ◌∙◌, arith}
use Rattle.mesh_tracing.proofs.Turns.{going_up, going_lower, gone_down, gone_unfit, gone_home}
use Rattle.mesh_tracing.proofs.climb.Goals as goal

pub returns-in_err-u : goal.returns-in_err-u
returns-in_err-u c = rw c.from_residual.ensures (gone_unfit _ _ _ _ _ c.loop-t.invariant _ _ _ c.back.ensures c.in_err-u.was)

pub loop-t-smaller : goal.loop-t-smaller
loop-t-smaller c =
    let l = going_lower _ _ _ _ _ c.loop-t.invariant _ _ _ c.back.ensures _ (c.in_ok-u.was ∙ ap Some c.in-Up.is) in
    omega arith

pub loop-t-preserved : goal.loop-t-preserved
loop-t-preserved c = going_up _ _ _ _ _ c.loop-t.invariant _ _ _ c.back.ensures _ (c.in_ok-u.was ∙ ap Some c.in-Up.is)

pub returns-in-Down : goal.returns-in-Down
returns-in-Down c = gone_down _ _ _ _ _ c.loop-t.invariant _ _ _ c.back.ensures _ (c.in_ok-u.was ∙ ap Some c.in-Down.is)

pub returns : goal.returns
returns c = gone_home _ _ _ _ _ c.loop-t.invariant (omega arith)
