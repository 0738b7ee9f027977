use Rattle.std.proofs.Common.{arith}
use Rattle.mesh_first_places.proofs.Firsts.{first_ranges, first_in, first_over, first_second}
use Rattle.mesh_first_places.proofs.Turns.{first_goes_down, first_unfit}
use Rattle.mesh_first_places.proofs.first_place.Goals as goal

pub other-requires : goal.other-requires
other-requires c = let r = first_ranges _ _ _ _ c.requires in let l = first_in _ _ _ _ c.requires in omega arith

pub offset_bounds-w-other : goal.offset_bounds-w-other
offset_bounds-w-other c = let r = first_ranges _ _ _ _ c.requires in let l = first_over _ _ _ _ c.requires in omega arith

pub bounds-w-other : goal.bounds-w-other
bounds-w-other c = let l = first_over _ _ _ _ c.requires in omega (arith, c.requires.held.view.room)

pub overflow_sub-s : goal.overflow_sub-s
overflow_sub-s c = let r = first_ranges _ _ _ _ c.requires in omega arith

pub put_half-requires : goal.put_half-requires
put_half-requires c =
    let a = c.requires in
    let r = first_ranges _ _ _ _ a in
    (r.few_darts, a.held.view.room, first_second _ _ _ _ a, omega arith, omega arith, r.halves)

pub overflow_add-result : goal.overflow_add-result
overflow_add-result c = let r = first_ranges _ _ _ _ c.requires in omega arith

pub returns-in-0 : goal.returns-in-0
returns-in-0 c = first_goes_down _ _ _ _ c.requires _ c.other.ensures _ c.put_half.auto.w (omega arith) c.put_half.ensures

pub returns-in_default : goal.returns-in_default
returns-in_default c = first_unfit _ _ _ _ c.requires _ c.other.ensures (λ e. omega arith) (omega arith)
