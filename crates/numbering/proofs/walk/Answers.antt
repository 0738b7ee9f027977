use Rattle.std.proofs.Common.{add-one, arith, rules}
use Rattle.numbering.proofs.Whole.{clear_ground, clear_marks, walking_start, finished}
use Rattle.numbering.proofs.walk.Goals as goal

pub round-requires : goal.round-requires
round-requires c =
    let r = c.args.plan.rotation in
    let f = c.fill.ensures in
    (clear_ground r.order.now _ r.sized r.entries c.requires.1 _ f, c.args.plan.dart, omega arith, λ z h e. clear_marks r.order.now _ r.sized r.entries c.requires.1 _ f z h)

pub loop-i-init : goal.loop-i-init
loop-i-init c =
    let r = c.args.plan.rotation in
    walking_start _ _ r.sized r.entries c.requires.1 _ c.fill.ensures _ c.args.plan.dart c.requires.0 _ c.round.ensures

pub loop-i-preserved : goal.loop-i-preserved
loop-i-preserved c = rw add-one c.visit-s.ensures

pub returns : goal.returns
returns c = record {
  rotation = finished _ _ _ _ _ c.loop-i.invariant (omega arith);
  kept = search (rules, c.loop-i.auto.w, c.round.auto.w, c.fill.auto.w);
}
