use Rattle.std.proofs.Common.{inl, inr, arith}
use Rattle.mesh_second_places.proofs.Seconds.{second_here}
use Rattle.mesh_second_places.proofs.Turns.{ending}
use Rattle.mesh_tracing.proofs.Homes.{back_at}
use Rattle.mesh_tracing.proofs.Turns.{half_tells}
use Rattle.mesh_tracing.proofs.back.Goals as goal
use Rattle.mesh_tracing.proofs.back.Goals.{in-0-1, in_default+else-this-lt32768}

pub overflow_add-y : goal.overflow_add-y
overflow_add-y c = let h = second_here (back_at _ _ _ c.requires.0 c.requires.1) in omega arith

pub offset_bounds-w-n : goal.offset_bounds-w-n
offset_bounds-w-n c = let h = second_here (back_at _ _ _ c.requires.0 c.requires.1) in omega arith

pub bounds-w-n : goal.bounds-w-n
bounds-w-n c = let h = second_here (back_at _ _ _ c.requires.0 c.requires.1) in omega arith

pub overflow_add-f : goal.overflow_add-f
overflow_add-f c = let h = second_here (back_at _ _ _ c.requires.0 c.requires.1) in omega arith

pub offset_bounds-w-n-2 : goal.offset_bounds-w-n-2
offset_bounds-w-n-2 c = let h = second_here (back_at _ _ _ c.requires.0 c.requires.1) in omega arith

pub bounds-w-n-2 : goal.bounds-w-n-2
bounds-w-n-2 c = let h = second_here (back_at _ _ _ c.requires.0 c.requires.1) in omega arith

pub overflow_add-e : goal.overflow_add-e
overflow_add-e c = let h = second_here (back_at _ _ _ c.requires.0 c.requires.1) in omega arith

pub offset_bounds-w-n-3 : goal.offset_bounds-w-n-3
offset_bounds-w-n-3 c = let h = second_here (back_at _ _ _ c.requires.0 c.requires.1) in omega arith

pub bounds-w-n-3 : goal.bounds-w-n-3
bounds-w-n-3 c = let h = second_here (back_at _ _ _ c.requires.0 c.requires.1) in omega arith

pub offset_bounds-w-other : goal.offset_bounds-w-other
offset_bounds-w-other c = let h = second_here (back_at _ _ _ c.requires.0 c.requires.1) in omega arith

pub bounds-w-other : goal.bounds-w-other
bounds-w-other c = let h = second_here (back_at _ _ _ c.requires.0 c.requires.1) in omega arith

pub second_place-requires : goal.second_place-requires
second_place-requires c =
    half_tells _ _ _ _ _ (back_at _ _ _ c.requires.0 c.requires.1) _ c.other.ensures
    (elim c.in-0-1.branch [ in-0-1 u ↦ inl (omega arith) | in_default+else-this-lt32768 u ↦ inr (omega arith) ])

pub end_edge-requires : goal.end_edge-requires
end_edge-requires c =
    (back_at _ _ _ c.requires.0 c.requires.1, ending c.args.w.now _ _ c.other.ensures (λ e. omega arith) (omega arith))
