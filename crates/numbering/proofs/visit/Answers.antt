use Rattle.std.proofs.Common.{refl, arith}
use Rattle.trace_steps.proofs.Grounds.{few}
use Rattle.numbering.proofs.Stepping.{over_in, placed, blank, up_range, end_range, moved_down, moved_first, moved_up, moved_second}
use Rattle.numbering.proofs.visit.Goals as goal

pub other-o-requires : goal.other-o-requires
other-o-requires c =
    let p = c.requires in
    let f = few p.0.ground in
    omega (arith, (placed _ _ _ _ _ p.0 p.1 _ refl).dart)

pub offset_bounds-w-o : goal.offset_bounds-w-o
offset_bounds-w-o c =
    let p = c.requires in
    let f = few p.0.ground in
    omega (arith, over_in _ _ _ _ _ p.0 p.1 _ c.other-o.ensures)

pub bounds-w-o : goal.bounds-w-o
bounds-w-o c = let p = c.requires in omega (arith, over_in _ _ _ _ _ p.0 p.1 _ c.other-o.ensures, p.0.ground.room)

pub go_down-requires : goal.go_down-requires
go_down-requires c =
    let p = c.requires in
    let o = c.other-o.ensures in
    (p.0.ground, placed _ _ _ _ _ p.0 p.1 _ o, over_in _ _ _ _ _ p.0 p.1 _ o, blank _ _ _ _ _ p.0 p.1 _ o (omega arith))

pub go_first-requires : goal.go_first-requires
go_first-requires c = let p = c.requires in (p.0.ground, placed _ _ _ _ _ p.0 p.1 _ c.other-o.ensures)

pub go_up-requires : goal.go_up-requires
go_up-requires c =
    let p = c.requires in
    let o = c.other-o.ensures in
    (p.0.ground, placed _ _ _ _ _ p.0 p.1 _ o, over_in _ _ _ _ _ p.0 p.1 _ o, up_range _ _ _ _ _ p.0 p.1 _ o (omega arith) (omega arith))

pub overflow_sub-mark : goal.overflow_sub-mark
overflow_sub-mark c = let p = c.requires in (end_range _ _ _ _ _ p.0 p.1 _ c.other-o.ensures (omega arith) (omega arith)).0

pub go_second-requires : goal.go_second-requires
go_second-requires c =
    let p = c.requires in
    let o = c.other-o.ensures in
    (p.0.ground, placed _ _ _ _ _ p.0 p.1 _ o, (end_range _ _ _ _ _ p.0 p.1 _ o (omega arith) (omega arith)).1)

pub returns-in-0 : goal.returns-in-0
returns-in-0 c =
    let p = c.requires in
    moved_down _ _ _ _ _ p.0 p.1 _ c.other-o.ensures (omega arith) _ _ c.go_down.ensures

pub returns-in-32768-to-65535 : goal.returns-in-32768-to-65535
returns-in-32768-to-65535 c =
    let p = c.requires in
    let v = c.go_first.ensures in
    moved_first _ _ _ _ _ p.0 p.1 _ c.other-o.ensures (omega arith) _ _ v.0 v.1

pub returns-in-16384-to-65535 : goal.returns-in-16384-to-65535
returns-in-16384-to-65535 c =
    let p = c.requires in
    let v = c.go_up.ensures in
    moved_up _ _ _ _ _ p.0 p.1 _ c.other-o.ensures (omega arith) (omega arith) _ _ v.0 v.1

pub returns-in_default : goal.returns-in_default
returns-in_default c =
    let p = c.requires in
    let v = c.go_second.ensures in
    moved_second _ _ _ _ _ p.0 p.1 _ c.other-o.ensures (omega arith) (omega arith) _ _ v.0 v.1
