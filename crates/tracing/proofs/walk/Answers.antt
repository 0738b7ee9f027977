use Rattle.std.proofs.Common.{arith}
use Rattle.tracing.proofs.Whole.{walking_start, walking_on, traced_back, traced_unfit, traced_never, unmarked_root}
use Rattle.tracing.proofs.walk.Goals as goal

pub round-requires : goal.round-requires
round-requires c =
    let r = c.args.plan.rotation in
    (record { count = r.sized; perm = r.entries; room = c.requires.0 }, c.args.plan.dart, omega arith, λ z h e. unmarked_root r.order.now c.args.w.now c.requires.1 z h)

pub loop-i-init : goal.loop-i-init
loop-i-init c =
    let r = c.args.plan.rotation in
    walking_start _ _ _ _ _ (record { count = r.sized; perm = r.entries; room = c.requires.0 }) c.args.plan.dart c.requires.1 c.round.ensures

pub visit-requires : goal.visit-requires
visit-requires c = let at = c.loop-i.invariant in (at.traced, c.loop-i-test.true, at.away)

pub returns-in_default : goal.returns-in_default
returns-in_default c = traced_unfit _ _ _ _ _ _ _ c.visit.ensures _ _ c.loop-i.invariant c.in_default.is _ c.round.auto.w

pub returns-then-s-root : goal.returns-then-s-root
returns-then-s-root c =
    traced_back _ _ _ _ _ _ _ c.visit.ensures _ _ c.loop-i.invariant c.loop-i-test.true _ c.in-Some.is c.if-s-root.true _ c.round.auto.w

pub loop-i-preserved : goal.loop-i-preserved
loop-i-preserved c =
    walking_on _ _ _ _ _ _ _ c.visit.ensures _ _ c.loop-i.invariant c.loop-i-test.true _ c.in-Some.is c.if-s-root.false

pub returns : goal.returns
returns c = traced_never _ _ _ _ _ _ _ c.loop-i.invariant c.loop-i-test.false _ c.round.auto.w
