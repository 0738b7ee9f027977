use Rattle.std.proofs.Common.{inl, inr, ⊎_elim, arith}
use Rattle.mesh_second_places.proofs.Seconds.{second_here, last_few}
use Rattle.mesh_second_places.proofs.Turns.{second_ends, few_unfit, last_unfit}
use Rattle.mesh_second_places.proofs.end_edge.Goals as goal

pub other-requires : goal.other-requires
other-requires c = let h = second_here c.requires.0 in omega arith

pub offset_bounds-w-other : goal.offset_bounds-w-other
offset_bounds-w-other c = let h = second_here c.requires.0 in omega arith

pub bounds-w-other : goal.bounds-w-other
bounds-w-other c = let h = second_here c.requires.0 in omega arith

pub overflow_add-last : goal.overflow_add-last
overflow_add-last c = let h = second_here c.requires.0 in omega arith

pub offset_bounds-w-n : goal.offset_bounds-w-n
offset_bounds-w-n c = let h = second_here c.requires.0 in omega arith

pub bounds-w-n : goal.bounds-w-n
bounds-w-n c = let h = second_here c.requires.0 in omega arith

pub overflow_add-before : goal.overflow_add-before
overflow_add-before c = let h = second_here c.requires.0 in omega arith

pub offset_bounds-w-n-2 : goal.offset_bounds-w-n-2
offset_bounds-w-n-2 c = let h = second_here c.requires.0 in omega arith

pub bounds-w-n-2 : goal.bounds-w-n-2
bounds-w-n-2 c = let h = second_here c.requires.0 in omega arith

pub overflow_sub-w : goal.overflow_sub-w
overflow_sub-w c = let h = second_here c.requires.0 in omega arith

pub overflow_add-w : goal.overflow_add-w
overflow_add-w c = let h = second_here c.requires.0 in omega arith

pub offset_bounds-w-n-3 : goal.offset_bounds-w-n-3
offset_bounds-w-n-3 c = let h = second_here c.requires.0 in omega arith

pub bounds-w-n-3 : goal.bounds-w-n-3
bounds-w-n-3 c = let h = second_here c.requires.0 in omega arith

pub overflow_add-last-2 : goal.overflow_add-last-2
overflow_add-last-2 c = let h = second_here c.requires.0 in let l = last_few _ _ _ _ _ _ c.requires.0 (omega arith) in omega arith

pub returns-then-few : goal.returns-then-few
returns-then-few c = few_unfit _ _ _ _ _ c.requires.0 c.requires.1 c.if-few.true

pub returns-then-mark-last : goal.returns-then-mark-last
returns-then-mark-last c = last_unfit _ _ _ _ _ c.requires.0 c.requires.1 _ c.other.ensures (⊎_elim inl (λ u. inr u.1) c.then-mark-last.either)

pub returns : goal.returns
returns c = second_ends _ _ _ _ _ c.requires.0 _ c.other.ensures (omega arith) c.if-mark-last.false (omega arith)
