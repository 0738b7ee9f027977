use Rattle.std.proofs.Common.{arith}
use Rattle.model.specs.Map.{next, face_next}
use Rattle.model.proofs.Fitness.{count_parts, opposite_bound}
use Rattle.dart_steps.proofs.along.Goals as goal

pub other-requires : goal.other-requires
other-requires c = let n = count_parts _ c.requires.0 in omega arith

pub offset_bounds-order-other : goal.offset_bounds-order-other
offset_bounds-order-other c =
    let n = count_parts _ c.requires.0 in
    let o = opposite_bound _ _ n.1 c.requires.1 in
    omega arith

pub bounds-order-other : goal.bounds-order-other
bounds-order-other c = let o = opposite_bound _ _ (count_parts _ c.requires.0).1 c.requires.1 in omega arith

pub returns : goal.returns
unfolding face_next next
returns c = rw c.other.ensures
