use Rattle.std.proofs.Common.{Some, refl, ap, ◌∙◌, arith}
use Rattle.mesh_first_places.proofs.Firsts.{down_ranges}
use Rattle.mesh_tracing.proofs.Turns.{corners, faced_begun, walking_on, walking_home, meshed_since, root_unfit, turn_unfit}
use Rattle.mesh_tracing.proofs.walk.Goals as goal

pub along-y-requires : goal.along-y-requires
along-y-requires c =
    let r = c.args.plan.rotation in
    (corners (record { count = r.sized; perm = r.entries; room = c.requires.0 }) c.args.plan.dart c.along-x.ensures refl).first

pub returns-then-not-mark_face : goal.returns-then-not-mark_face
returns-then-not-mark_face c =
    let f = c.mark_face in
    root_unfit _ _ _ _ _ c.args.plan.dart f.ensures c.if-not-mark_face.true f.auto.w

pub loop-t-init : goal.loop-t-init
loop-t-init c =
    let p = c.args.plan in
    faced_begun _ _ _ _ p.rotation.sized p.rotation.entries p.dart c.requires.0 c.requires.1 _ c.mark_face.ensures c.if-not-mark_face.false

pub loop-t-smaller : goal.loop-t-smaller
loop-t-smaller c =
    let d = c.in-Some-Down in
    let l = (down_ranges _ _ _ c.loop-t.invariant.at).edges in
    let m = (walking_on _ _ _ _ _ _ c.loop-t.invariant _ c.turn.ensures _ (d.is ∙ ap Some d.field-0-is)).1 in
    omega arith

pub loop-t-preserved : goal.loop-t-preserved
loop-t-preserved c =
    let d = c.in-Some-Down in
    (walking_on _ _ _ _ _ _ c.loop-t.invariant _ c.turn.ensures _ (d.is ∙ ap Some d.field-0-is)).0

pub at_end-requires : goal.at_end-requires
at_end-requires c =
    let u = c.in-Some-Up in
    (walking_home _ _ _ _ _ _ c.loop-t.invariant _ c.turn.ensures _ (u.is ∙ ap Some u.field-0-is)).0

pub returns-in-Some-Up : goal.returns-in-Some-Up
returns-in-Some-Up c =
    let u = c.in-Some-Up in
    let (h, r, l) = walking_home _ _ _ _ _ _ c.loop-t.invariant _ c.turn.ensures _ (u.is ∙ ap Some u.field-0-is) in
    meshed_since _ _ _ _ _ _ r (l ∙ c.mark_face.auto.w) c.at_end.ensures

pub returns-in-None : goal.returns-in-None
returns-in-None c = turn_unfit _ _ _ _ _ _ c.mark_face.auto.w c.loop-t.invariant _ _ c.turn.ensures c.in-None.is
