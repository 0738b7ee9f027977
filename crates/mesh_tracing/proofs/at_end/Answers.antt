use Rattle.std.proofs.Common.{refl, inl, inr, arith}
use Rattle.trace_steps.specs.Steps.{Ground}
use Rattle.mesh_tracing.proofs.Turns.{corners, home_unfit, mark_unfit, is_meshed}
use Rattle.mesh_tracing.proofs.at_end.Goals as goal
use Rattle.mesh_tracing.proofs.at_end.Goals.{After-along-x, then-s-ne2-via-then-s-ne2, then-s-ne2-via-else-s-ne2+then-not-all}

ground : (c : After-along-x) → Ground c.args.order.now c.args.w.now
ground c = let h = c.requires.held in record { count = h.count; perm = h.perm; room = h.view.room }

pub along-y-requires : goal.along-y-requires
along-y-requires c =
    let n = corners (ground (goal.at.along-y-requires c).After-along-x) c.requires.held.root_in c.along-x.ensures refl in
    (c.requires.held.count, n.first)

pub returns-then-s-ne2 : goal.returns-then-s-ne2
returns-then-s-ne2 c =
    home_unfit _ _ _ c.requires
    (elim c.then-s-ne2.branch [
      | then-s-ne2-via-then-s-ne2 u ↦ inl u.if-s-ne2.true
      | then-s-ne2-via-else-s-ne2+then-not-all u ↦ inr u.if-not-all.true
    ])

pub other-requires : goal.other-requires
other-requires c =
    let n = corners (ground (goal.at.other-requires c).After-along-x) c.requires.held.root_in c.along-x.ensures c.along-y.ensures in
    omega arith

pub is_end-requires : goal.is_end-requires
is_end-requires c =
    let n = corners (ground (goal.at.is_end-requires c).After-along-x) c.requires.held.root_in c.along-x.ensures c.along-y.ensures in
    (n.few, c.requires.held.view.room, omega arith, n.some)

pub returns-then-not-is_end : goal.returns-then-not-is_end
returns-then-not-is_end c = mark_unfit _ _ _ c.requires _ _ c.along-x.ensures c.other.ensures _ c.is_end.ensures c.if-not-is_end.true

pub other-requires-2 : goal.other-requires-2
other-requires-2 c =
    let n = corners (ground (goal.at.other-requires-2 c).After-along-x) c.requires.held.root_in c.along-x.ensures c.along-y.ensures in
    omega arith

pub is_end-requires-2 : goal.is_end-requires-2
is_end-requires-2 c =
    let n = corners (ground (goal.at.is_end-requires-2 c).After-along-x) c.requires.held.root_in c.along-x.ensures c.along-y.ensures in
    (n.few, c.requires.held.view.room, omega arith, omega arith)

pub returns : goal.returns
returns c =
    is_meshed _ _ _ c.requires _ _ c.along-x.ensures c.other.ensures _ c.is_end.ensures c.if-s-ne2.false c.if-not-all.false c.if-not-is_end.false
    _ _ c.along-y.ensures c.other-2.ensures _ c.is_end-2.ensures
