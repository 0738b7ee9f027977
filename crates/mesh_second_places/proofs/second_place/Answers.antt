use Rattle.std.proofs.Common.{arith}
use Rattle.mesh_second_places.proofs.Seconds.{second_here}
use Rattle.mesh_second_places.proofs.Turns.{second_goes_down, second_goes_up, second_unfit}
use Rattle.mesh_second_places.proofs.second_place.Goals as goal

pub other-requires : goal.other-requires
other-requires c = let h = second_here c.requires.at in omega arith

pub offset_bounds-w-other : goal.offset_bounds-w-other
offset_bounds-w-other c = let h = second_here c.requires.at in omega arith

pub bounds-w-other : goal.bounds-w-other
bounds-w-other c = let h = second_here c.requires.at in omega arith

pub overflow_sub-w : goal.overflow_sub-w
overflow_sub-w c = let h = second_here c.requires.at in omega arith

pub overflow_add-w : goal.overflow_add-w
overflow_add-w c = let h = second_here c.requires.at in omega arith

pub offset_bounds-w-n : goal.offset_bounds-w-n
offset_bounds-w-n c = let h = second_here c.requires.at in omega arith

pub bounds-w-n : goal.bounds-w-n
bounds-w-n c = let h = second_here c.requires.at in omega arith

pub overflow_sub-w-in-32768-to-65535 : goal.overflow_sub-w-in-32768-to-65535
overflow_sub-w-in-32768-to-65535 c = let h = second_here c.requires.at in omega arith

pub overflow_add-w-in-32768-to-65535 : goal.overflow_add-w-in-32768-to-65535
overflow_add-w-in-32768-to-65535 c = let h = second_here c.requires.at in omega arith

pub offset_bounds-w-n-in-32768-to-65535 : goal.offset_bounds-w-n-in-32768-to-65535
offset_bounds-w-n-in-32768-to-65535 c = let h = second_here c.requires.at in omega arith

pub bounds-w-n-in-32768-to-65535 : goal.bounds-w-n-in-32768-to-65535
bounds-w-n-in-32768-to-65535 c = let h = second_here c.requires.at in omega arith

pub overflow_add-result : goal.overflow_add-result
overflow_add-result c = let h = second_here c.requires.at in omega arith

pub overflow_add-result-in-32768-to-65535 : goal.overflow_add-result-in-32768-to-65535
overflow_add-result-in-32768-to-65535 c = let h = second_here c.requires.at in omega arith

pub put_edge-requires : goal.put_edge-requires
put_edge-requires c = let h = second_here c.requires.at in (h.few_darts, h.room, h.dart, h.edges, h.waiting)

pub returns-in-0 : goal.returns-in-0
returns-in-0 c = second_goes_down _ _ _ _ _ _ c.requires _ c.other.ensures (omega arith)

pub returns-in-32768-to-65535 : goal.returns-in-32768-to-65535
returns-in-32768-to-65535 c =
    second_goes_up _ _ _ _ _ _ c.requires _ c.other.ensures (omega arith) _ c.put_edge.ensures c.put_edge.auto.w

pub returns-in_default : goal.returns-in_default
returns-in_default c = second_unfit _ _ _ _ _ _ c.requires _ c.other.ensures (λ e. omega arith) (omega arith)
