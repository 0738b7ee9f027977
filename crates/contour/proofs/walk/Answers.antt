use Rattle.std.proofs.Common.{ℕ, arith, length-set}
use Rattle.contour.proofs.Rest.{Started, started, begun, going_on, walked_back, walked_all}
use Rattle.contour.proofs.walk.Goals as goal
use Rattle.contour.proofs.walk.Goals.{After-fill-2}

-- the area is cleared
start : (c : After-fill-2) → Started c.args.plan.rotation.order.now c.args.plan.root c.args.w.now c.fill-2.new.w
start c =
    started c.args.plan.rotation.order.now c.args.plan.root c.args.w.now c.fill.new.w c.fill-2.new.w c.args.plan.rotation.sized c.args.plan.rotation.entries
    c.args.plan.dart c.requires.0 c.requires.1 c.fill.ensures c.fill-2.ensures

pub bounds-w-n : goal.bounds-w-n
bounds-w-n c = let s = start (goal.at.bounds-w-n c).After-fill-2 in omega arith

pub loop-i-init : goal.loop-i-init
loop-i-init c = begun (start (goal.at.loop-i-init c).After-fill-2)

pub returns-then-d-root : goal.returns-then-d-root
returns-then-d-root c =
    walked_back (start (goal.at.returns-then-d-root c).After-fill-2) c.loop-i.invariant c.loop-i-test.true c.visit-d.ensures
    (omega (arith, length-set {A = ℕ})) c.if-d-root.true

pub loop-i-preserved : goal.loop-i-preserved
loop-i-preserved c =
    going_on (start (goal.at.loop-i-preserved c).After-fill-2) c.loop-i.invariant c.loop-i-test.true c.visit-d.ensures c.if-d-root.false

pub returns : goal.returns
returns c = walked_all (start (goal.at.returns c).After-fill-2) c.loop-i.invariant (omega (arith, length-set {A = ℕ})) (omega arith)
