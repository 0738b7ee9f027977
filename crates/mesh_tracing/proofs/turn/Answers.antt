use Rattle.std.proofs.Common.{Some, ap, ◌∙◌}
use Rattle.mesh_tracing.proofs.Turns.{turned_at, turned_up, turned_down, turned_unfit}
use Rattle.mesh_tracing.proofs.turn.Goals as goal

pub returns-in_err-t : goal.returns-in_err-t
returns-in_err-t c = rw c.from_residual.ensures (turned_unfit _ _ _ _ _ _ _ c.enter.ensures c.in_err-t.was)

pub climb-requires : goal.climb-requires
climb-requires c = turned_at _ _ _ _ _ _ _ c.enter.ensures _ (c.in_ok-t.was ∙ ap Some c.in-Up.is)

pub returns-in-Up : goal.returns-in-Up
returns-in-Up c = turned_up _ _ _ _ _ _ _ c.enter.ensures _ (c.in_ok-t.was ∙ ap Some c.in-Up.is) _ _ c.climb.ensures

pub returns-in-Down : goal.returns-in-Down
returns-in-Down c = turned_down _ _ _ _ _ _ _ c.enter.ensures _ (c.in_ok-t.was ∙ ap Some c.in-Down.is)
