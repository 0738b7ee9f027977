use Rattle.std.proofs.Common.{sym, ◌∙◌, arith}
use Rattle.trace_steps.proofs.Grounds.{few}
use Rattle.tracing.proofs.Stepping as stepping
use Rattle.tracing.proofs.Visits as visits
use Rattle.tracing.proofs.visit.Goals as goal

pub other-o-requires : goal.other-o-requires
other-o-requires c =
    let p = c.requires in
    let f = few p.0.ground in
    omega (arith, (stepping.placed _ _ _ _ _ p.0 p.1 p.2).dart)

pub offset_bounds-w-o : goal.offset_bounds-w-o
offset_bounds-w-o c =
    let p = c.requires in
    let f = few p.0.ground in
    omega (arith, visits.over_in p.0 p.1 p.2 c.other-o.ensures)

pub bounds-w-o : goal.bounds-w-o
bounds-w-o c = let p = c.requires in omega (arith, visits.over_in p.0 p.1 p.2 c.other-o.ensures, p.0.ground.room)

pub returns-then-mark-eq0 : goal.returns-then-mark-eq0
returns-then-mark-eq0 c =
    let p = c.requires in
    visits.visited_down p.0 p.1 p.2 c.other-o.ensures (omega arith) _ _ c.go_down.auto.w c.go_down.ensures

pub loop_refused-requires : goal.loop_refused-requires
loop_refused-requires c =
    let p = c.requires in
    omega (arith, (stepping.placed _ _ _ _ _ p.0 p.1 p.2).dart, p.0.ground.room)

pub returns-then-loop_refused : goal.returns-then-loop_refused
returns-then-loop_refused c =
    let p = c.requires in
    visits.unfit_first p.0 p.1 p.2 c.other-o.ensures (omega arith) (sym c.loop_refused.ensures ∙ c.if-loop_refused.true)

pub returns-then-mark-ge-SEEN : goal.returns-then-mark-ge-SEEN
returns-then-mark-ge-SEEN c =
    let p = c.requires in
    let v = c.go_first in
    visits.visited_first p.0 p.1 p.2 c.other-o.ensures (omega arith) (visits.loop_left _ _ _ (sym c.loop_refused.ensures ∙ c.if-loop_refused.false))
    _ _ v.auto.w v.ensures.0 v.ensures.1

pub leaf_refused-requires : goal.leaf_refused-requires
leaf_refused-requires c = let p = c.requires in (stepping.placed _ _ _ _ _ p.0 p.1 p.2).dart

pub returns-then-leaf_refused : goal.returns-then-leaf_refused
returns-then-leaf_refused c =
    let p = c.requires in
    visits.unfit_up p.0 p.1 p.2 c.other-o.ensures (omega arith) (omega arith) (sym c.leaf_refused.ensures ∙ c.if-leaf_refused.true)

pub returns-then-mark-ge-DOWN : goal.returns-then-mark-ge-DOWN
returns-then-mark-ge-DOWN c =
    let p = c.requires in
    let v = c.go_up in
    visits.visited_up p.0 p.1 p.2 c.other-o.ensures (omega arith) (omega arith) (visits.leaf_left _ _ _ (sym c.leaf_refused.ensures ∙ c.if-leaf_refused.false))
    _ _ v.auto.w v.ensures.0 v.ensures.1

pub overflow_sub-f : goal.overflow_sub-f
overflow_sub-f c = let p = c.requires in (visits.end_range p.0 p.1 p.2 c.other-o.ensures (omega arith) (omega arith)).0

pub is_last-crossed-requires : goal.is_last-crossed-requires
is_last-crossed-requires c =
    let p = c.requires in
    let r = stepping.placed _ _ _ _ _ p.0 p.1 p.2 in
    (few p.0.ground, p.0.ground.room, omega (arith, r.waiting, r.position))

pub returns-then-crossed : goal.returns-then-crossed
returns-then-crossed c =
    let p = c.requires in
    visits.unfit_second p.0 p.1 p.2 c.other-o.ensures (omega arith) (omega arith) (sym c.is_last-crossed.ensures ∙ c.if-crossed.true)

pub go_second-requires : goal.go_second-requires
go_second-requires c =
    let p = c.requires in (
      p.0.ground,
      stepping.placed _ _ _ _ _ p.0 p.1 p.2,
      (visits.end_range p.0 p.1 p.2 c.other-o.ensures (omega arith) (omega arith)).1,
      visits.has_waiting p.0 p.1 p.2 c.other-o.ensures (omega arith) (omega arith) (sym c.is_last-crossed.ensures ∙ c.if-crossed.false),
    )

pub returns : goal.returns
returns c =
    let p = c.requires in
    let v = c.go_second in
    visits.visited_second p.0 p.1 p.2 c.other-o.ensures (omega arith) (omega arith) (sym c.is_last-crossed.ensures ∙ c.if-crossed.false)
    _ _ v.auto.w v.ensures.0 v.ensures.1
